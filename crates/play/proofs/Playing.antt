-- Orders one behind the other, and replies that come until no ask is left.
use Rattle.std.proofs.Common.{◌≡◌, refl, ℕ, suc, ◌+◌, Option, Some, None, List, [], ◌∷◌, ◌++◌, length, map, sym, subst}
use Rattle.wire.specs.declared.via.Via.{Via}
use Rattle.script.specs.Orders.{Order}
use Rattle.network.specs.Networks.{Network, NetworkEvent, Client}
use Rattle.score.specs.Clients.{Queries, IsHeard}
use Rattle.score.specs.Sends.{Passage, lowest, taken_off, way_at}
use Rattle.score.specs.declared.count.Count.{Count}
use Rattle.score.specs.declared.sends.Mark.{Mark}
use Rattle.score.proofs.Left.{way_stays}
use Rattle.play.specs.Plays.{State, Happens, Occurs, SendsQuery, Carries, Runs, Does, Plays, beginning, coming, without}

-- ---- before the first order

-- A network, and nothing that was seen.
abbrev pub opened : Network → Queries → Passage → Count → List ℕ → State
opened N clients sends count text = record { moment = 0; seen = record { network = N; clients = clients; sends = sends.marks; count = count; text = text } }

pub begun : (N : Network) (clients : Queries) (sends : Passage) (count : Count) (text : List ℕ) → clients ≡ [] → sends ≡ record { marks = []; passed = 0 }
    → count ≡ record { replies = 0; right = 0 } → text ≡ [] → opened N clients sends count text ≡ beginning N
begun N clients sends count text a b c d = λ i. opened N (a i) (b i) (c i) (d i)

-- ---- one order

-- With the asks that are left as they are named.
pub occurred : (event : NetworkEvent) (old new : State) (marks left : List Mark) → marks ≡ left → new.moment ≡ old.moment
    → Happens event ((without marks old).seen) new.seen → Occurs event (without left old) new
occurred event old new marks left is moment h = (moment, subst (λ (ms : List Mark). Happens event ((without ms old).seen) new.seen) is h)

-- An ask goes by the same way once it is taken off.
pub carried : (k : ℕ) (old new : State) (marks : List Mark) → marks ≡ taken_off (old.seen).sends k
    → Occurs (coming old.moment k (way_at marks k)) (without marks old) new → Carries k old new
carried k old new marks is h =
    subst (λ (way : Option Via). Occurs (coming old.moment k way) (without (taken_off (old.seen).sends k) old) new) (way_stays (old.seen).sends k)
    (subst (λ (ms : List Mark). Occurs (coming old.moment k (way_at ms k)) (without ms old) new) is h)

pub asked : (way : Via) (client : ℕ) (bytes given : List ℕ) (queries : Queries) (old new : State) → client ≡ length (old.seen).clients + 1 → given ≡ bytes
    → IsHeard given (old.seen).clients queries → new.moment ≡ old.moment
    → Happens (Client old.moment client way bytes) (record old.seen { clients = queries }) new.seen → SendsQuery way bytes old new
asked way client bytes given queries old new number same heard moment h = (
  queries,
  subst (λ (b : List ℕ). IsHeard b (old.seen).clients queries) same heard,
  (moment, subst (λ (n : ℕ). Happens (Client old.moment n way bytes) (record old.seen { clients = queries }) new.seen) number h),
)

-- ---- replies until none is left

-- Whatever follows from here follows from the beginning.
abbrev pub LeadsTo : State → State → Type 0
LeadsTo old middle = (rounds : ℕ) (new : State) → Runs rounds middle new → (more : ℕ) × Runs more old new

pub stays : (s : State) → LeadsTo s s
stays s rounds new runs = (rounds, runs)

pub one_round : (old middle next : State) (k : ℕ) → LeadsTo old middle → lowest (middle.seen).sends ≡ Some k → Carries k middle next → LeadsTo old next
one_round old middle next k leads left carries rounds new runs = leads (suc rounds) new (k, next, left, carries, runs)

pub all_rounds : (old middle : State) (marks : List Mark) → LeadsTo old middle → None ≡ lowest (middle.seen).sends → marks ≡ (middle.seen).sends
    → (rounds : ℕ) × Runs rounds old (without marks middle)
all_rounds old middle marks leads none is =
    subst (λ (ms : List Mark). (rounds : ℕ) × Runs rounds old (without ms middle)) (sym is) (leads 0 middle (sym none, refl))

-- ---- one order more

pub one_more : {O : Type 0} (view : O → Order) (xs : List O) (x : O) (old middle new : State) → Plays (map view xs) old middle → Does (view x) middle new
    → Plays (map view (xs ++ x ∷ [])) old new
one_more view [] x old middle new same does = (new, subst (λ (s : State). Does (view x) s new) same does, refl)
one_more view (y ∷ xs) x old middle new (next, one, more) does = (next, one, one_more view xs x next middle new more does)
