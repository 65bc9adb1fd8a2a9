-- What a script does in a network, order by order, and what is printed of it.
use Rattle.std.specs.Prelude.{◌≡◌, ℕ, zero, suc, ◌+◌, Option, Some, None, List, [], ◌∷◌, ◌++◌, length, take, codes, decimal}
use Rattle.std.specs.List.{flat_map}
use Rattle.rdata.specs.Types.{type_number}
use Rattle.message_grammar.specs.Messages.{encoding}
use Rattle.wire.specs.declared.via.Via.{Via}
use Rattle.wire.specs.declared.via.Via.TheVariants.{Udp, Tcp}
use Rattle.script.specs.Orders.{Order, at, ask, raw, carry, truncate, lose, run, tick}
use Rattle.network.specs.Networks.{Network, NetworkEvent, Client, Carry, CarryTruncated, CarryTcp, Lose, Tick, NetworkAction, NetworkStep}
use Rattle.score.specs.Clients.{Queries, IsHeard, query_for}
use Rattle.play.specs.Counts.{CountsAll, mark_of}
use Rattle.score.specs.Sends.{way_at, taken_off, lowest}
use Rattle.play.specs.Shown.{PutsLine}
use Rattle.score.specs.declared.sends.Mark.{Mark}
use Rattle.score.specs.declared.count.Count.{Count}

-- A network, its clients, which asks are left to be carried, the replies counted, and the text printed so far.
pub record Seen : Type 0 where
  pub network : Network
  pub clients : Queries
  pub sends : List Mark
  pub count : Count
  pub text : List ℕ

-- `moment`: that of what follows.
pub record State : Type 0 where
  pub moment : ℕ
  pub seen : Seen

-- ---- one event

abbrev pub out_of : Option (List NetworkAction) → List NetworkAction
out_of None = []
out_of (Some out) = out

-- An event happens: the network takes a step, what comes out is printed, and replies are counted.
pub record Happens (event : NetworkEvent) (old new : Seen) : Type 0 where
  pub out : Option (List NetworkAction)
  pub step : NetworkStep old.network event out new.network
  pub clients : new.clients ≡ old.clients
  pub sends : new.sends ≡ old.sends ++ flat_map mark_of (out_of out)
  pub counts : CountsAll (new.network).world old.clients (out_of out) old.count new.count
  pub prints : PutsLine (new.network).sends event out old.text new.text

-- ---- one order

abbrev pub Occurs : NetworkEvent → State → State → Type 0
Occurs event old new = (new.moment ≡ old.moment) × Happens event old.seen new.seen

-- A client more sends bytes.
abbrev pub SendsQuery : Via → List ℕ → State → State → Type 0
SendsQuery way bytes old new = (queries : Queries) × IsHeard bytes (old.seen).clients queries
    × Occurs (Client old.moment (length (old.seen).clients + 1) way bytes) (record old { seen = record old.seen { clients = queries } }) new

-- The reply to an ask comes by the way of the ask.
abbrev pub coming : ℕ → ℕ → Option Via → NetworkEvent
coming moment k None = Carry moment k
coming moment k (Some Udp) = Carry moment k
coming moment k (Some Tcp) = CarryTcp moment k

abbrev pub without : List Mark → State → State
without marks s = record s { seen = record s.seen { sends = marks } }

abbrev pub Carries : ℕ → State → State → Type 0
Carries k old new = Occurs (coming old.moment k (way_at (old.seen).sends k)) (without (taken_off (old.seen).sends k) old) new

-- A reply over TCP does not come truncated.
abbrev pub take_truncated : List Mark → ℕ → Option Via → List Mark
take_truncated marks k None = marks
take_truncated marks k (Some Udp) = taken_off marks k
take_truncated marks k (Some Tcp) = marks

-- So many replies come, each to the lowest ask that is left, and then none is left.
abbrev pub Runs : ℕ → State → State → Type 0
Runs zero old new = (lowest (old.seen).sends ≡ None) × (new ≡ old)
Runs (suc rounds) old new = (k : ℕ) × (middle : State) × (lowest (old.seen).sends ≡ Some k) × Carries k old middle × Runs rounds middle new

abbrev pub Does : Order → State → State → Type 0
Does (at n) old new = new ≡ record old { moment = n }
Does (ask name kind way rd) old new = SendsQuery way (encoding (query_for (length (old.seen).clients + 1) name (type_number kind) rd)) old new
Does (raw bytes way) old new = SendsQuery way (take 65535 bytes) old new
Does (carry k) old new = Carries k old new
Does (truncate k) old new = Occurs (CarryTruncated old.moment k) (without (take_truncated (old.seen).sends k (way_at (old.seen).sends k)) old) new
Does (lose k) old new = Occurs (Lose old.moment k) (without (taken_off (old.seen).sends k) old) new
Does run old new = (rounds : ℕ) × Runs rounds old new
Does tick old new = Occurs (Tick old.moment) old new

-- ---- a script

abbrev pub Plays : List Order → State → State → Type 0
Plays [] old new = new ≡ old
Plays (o ∷ os) old new = (middle : State) × Does o old middle × Plays os middle new

-- Before the first order.
abbrev pub beginning : Network → State
beginning s = record { moment = 0; seen = record { network = s; clients = []; sends = []; count = record { replies = 0; right = 0 }; text = [] } }

-- The last line.
abbrev pub last_line : Count → List ℕ
last_line c = codes "right " ++ decimal c.right ++ codes " of " ++ decimal c.replies ++ codes "\n"
