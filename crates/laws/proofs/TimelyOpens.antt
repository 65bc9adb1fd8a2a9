-- What a step makes of the open queries.
use Rattle.std.proofs.Common.{◌≡◌, ◌≢◌, ℕ, suc, ◌+◌, ◌≤◌, ◌<◌, inl, inr, Bool, true, false, cond, Option, List, [], ◌∷◌, ◌++◌, length, Contains, refl, sym, ap, ◌∙◌, subst, arith, eq-eqb}
use Rattle.lru.proofs.Splits.{Contains-head, Contains-tail, Contains-cons, Contains-nil}
use Rattle.dname.specs.Labels.{Name}
use Rattle.rdata.specs.Types.{type_number}
use Rattle.rdata.specs.declared.addr.Addr.{Addr}
use Rattle.causes.specs.declared.cause.Cause.{Cause}
use Rattle.wire.specs.declared.via.Via.{Via}
use Rattle.front.specs.declared.queries.Outcome.{Outcome}
use Rattle.resolution.specs.Jobs.{Home, Stores, Job}
use Rattle.runs.specs.States.{Action, Reply, MoreDue, Turn, Served, Nobody, Own, OpenQuery, Plain, ClientQuery, recursive, Path, ByUdp, ByTcp, Ask, IsFor, Open, open_query, AreApart, State}
use Rattle.runs.specs.Messages.{sending, IsSent}
use Rattle.runs.specs.Runs.{Earlier, GivesOut, Came, clock_of, is_ask, asks_among, asks_in, is_for, asks_of}
use Rattle.runs.specs.Steps.{AreOthers, AreWith, Ends, Waits, WaitsByUdp, WaitsByTcp}
use Rattle.laws.specs.Spent.{BringsTruncated, AsksBy, IsOpenAsk}
use Rattle.laws.specs.Caused.{AreDistinct}
use Rattle.laws.proofs.Told.{KnownIn}
use Rattle.laws.proofs.Leaving.{IsWaitingFor}
use Rattle.laws.proofs.TimelySent.{IsOpenFor}
use Rattle.laws.proofs.Timed.{known_for_good}
use Rattle.laws.proofs.States.{AreHeld, held_later, IsBorn, IsOpenSound, IsExplained, open_later, unasked_later, other_number}

pub alone : {X : Type 0} (a b : X) → Contains (a ∷ []) b → a ≡ b
alone a b c = elim (Contains-cons a [] b c) [ inl e ↦ e | inr d ↦ absurd (Contains-nil b d) ]

-- An ask is no reply.
pub no_reply : (port : ℕ) (ask : Ask) (client : ℕ) (way : Via) (bytes : List ℕ) (c : Option Cause) (action : Action) → IsSent port ask action → action ≡ Reply client way bytes c → ⊥
no_reply port ask client way bytes c action (text, written, is) e = by ask.path (sym is ∙ e)
  where
    by : (path : Path) → sending port ask path text ≡ Reply client way bytes c → ⊥
    by (ByUdp sock) e = cc
    by (ByTcp number) e = cc

-- An ask is one.
pub one_ask : (port : ℕ) (ask : Ask) (action : Action) → IsSent port ask action → asks_among (action ∷ []) ≡ 1
one_ask port ask action (text, written, is) = ap (λ (a : Action). asks_among (a ∷ [])) is ∙ by ask.path
  where
    by : (path : Path) → asks_among (sending port ask path text ∷ []) ≡ 1
    by (ByUdp sock) = refl
    by (ByTcp number) = refl

-- Word that another query is due is none.
pub same_count : (first : List Action) → asks_among (first ++ MoreDue ∷ []) ≡ asks_among first
same_count [] = refl
same_count (a ∷ more) = ap (λ (n : ℕ). cond (is_ask a) 1 0 + n) (same_count more)

pub earlier_map : (P Q : Turn → List Turn → Type 0) (run : List Turn) → ((t : Turn) (p : List Turn) → P t p → Q t p) → Earlier P run → Earlier Q run
earlier_map P Q [] f e = absurd e
earlier_map P Q (t ∷ past) f (inl p) = inl (f t past p)
earlier_map P Q (t ∷ past) f (inr e) = inr (earlier_map P Q past f e)

-- ---- numbers of open queries

pub numbers_of : List Open → List ℕ
numbers_of [] = []
numbers_of (q ∷ qs) = q.number ∷ numbers_of qs

pub as_many : (qs : List Open) → length (numbers_of qs) ≡ length qs
unfolding numbers_of
as_many [] = refl
as_many (q ∷ qs) = ap suc (as_many qs)

pub number_of : (qs : List Open) (k : ℕ) → Contains (numbers_of qs) k → (q : Open) × Contains qs q × (q.number ≡ k)
unfolding numbers_of
number_of [] k c = absurd (Contains-nil k c)
number_of (q ∷ qs) k c = elim (Contains-cons q.number (numbers_of qs) k c) [
  | inl e ↦ (q, Contains-head q qs, e)
  | inr d ↦ let (p, there, e) = number_of qs k d in (p, Contains-tail q qs p there, e)
]

pub all_distinct : (qs : List Open) → AreApart qs → AreDistinct (numbers_of qs)
unfolding numbers_of
all_distinct [] h = tt
all_distinct (q ∷ qs) (apart, more) = (λ c. let (p, there, e) = number_of qs q.number c in apart p there e, all_distinct qs more)

pub not_same : (k n : ℕ) → n ≢ k → OpenQuery k ≢ OpenQuery n
not_same k n apart e = let same : k ≡ n = cc in apart (sym same)

pub not_own : (n : ℕ) → Own ≢ OpenQuery n
not_own n e = cc

pub not_nobody : (n : ℕ) → Nobody ≢ OpenQuery n
not_nobody n e = cc

module _ (port : ℕ) (home : Home) (past : List Turn) (s : State) (h : IsExplained port home past s) (turn : Turn) where
  -- Nothing is open that was not.
  pub ended : (k : ℕ) (new : State) → new.opened ≡ s.opened → AreHeld port home (turn ∷ past) new.stores → AreOthers k s.queries new.queries
      → ((q : Open) → Contains s.queries q → q.number ≢ k → turn.served ≢ OpenQuery q.number) → ((j : ℕ) → s.opened ≤ j → is_for j turn.served ≡ false) → IsExplained port home (turn ∷ past) new
  ended k new count told others apart free = record {
    told = told;
    queries = λ q c. let (old, other) = others.only q c in open_later port home turn past q (apart q old other) (h.queries q old);
    below = λ q c. subst (λ (n : ℕ). q.number < n) (sym count) (h.below q (others.only q c).0);
    unasked = λ j le. let low = subst (λ (n : ℕ). n ≤ j) count le in unasked_later port home turn past j (free j low) (h.unasked j low);
  }

  -- One is open with a new ask.
  waiting : (after : Open) (new : State) → s.opened ≤ new.opened → after.number < new.opened → AreHeld port home (turn ∷ past) new.stores → AreWith after s.queries new.queries
      → turn.served ≡ OpenQuery after.number → IsOpenSound port home (turn ∷ past) after → IsExplained port home (turn ∷ past) new
  waiting after new more count told queries is sound = record {
    told = told;
    queries = λ q c. elim (queries.only q c) [
      | inl e ↦ subst (IsOpenSound port home (turn ∷ past)) (sym e) sound
      | inr (old, other) ↦ open_later port home turn past q (λ e. not_same after.number q.number other (sym is ∙ e)) (h.queries q old)
    ];
    below = λ q c. elim (queries.only q c) [
      | inl e ↦ subst (λ (x : Open). x.number < new.opened) (sym e) count
      | inr (old, other) ↦ within q.number (h.below q old)
    ];
    unasked = λ j le. unasked_later port home turn past j (subst (λ (x : Served). is_for j x ≡ false) (sym is) (other_number port home j after.number (past_it j le))) (h.unasked j (low j le));
  }
    where
      within : (n : ℕ) → n < s.opened → n < new.opened
      within n lt = omega arith

      past_it : (j : ℕ) → new.opened ≤ j → after.number < j
      past_it j le = omega arith

      low : (j : ℕ) → new.opened ≤ j → s.opened ≤ j
      low j le = omega arith

  -- What comes of a query that is served under a number.
  module _ (at : (s.site).port ≡ port) (who : ClientQuery) (k opened : ℕ) (is : turn.served ≡ OpenQuery k) (came : Earlier (Came (OpenQuery k) who) (turn ∷ past)) (wanted : recursive who.query ≡ true) (more : s.opened ≤ opened) (count : k < opened)
      (d m now : ℕ) (clock : now ≡ clock_of (turn ∷ past)) (Mine : Type 0) (mine : Mine → turn.served ≡ OpenQuery k) (born : IsBorn port home k who d (turn ∷ past)) (total : asks_of k past ≡ m) where
    one_more : (action : Action) (ask : Ask) (out : List Action) → IsSent port ask action → out ≡ action ∷ [] → asks_in turn.out ≡ asks_among out → asks_of k (turn ∷ past) ≡ m + 1
    one_more action ask out sent only counts =
        let here : is_for k turn.served ≡ true = ap (is_for k) is ∙ eq-eqb k k refl in
        let first : asks_in turn.out ≡ 1 = counts ∙ (ap asks_among only ∙ one_ask port ask action sent) in
        sum (is_for k turn.served) (asks_in turn.out) (asks_of k past) here first total
      where
        sum : (b : Bool) (n l : ℕ) → b ≡ true → n ≡ 1 → l ≡ m → cond b n 0 + l ≡ m + 1
        sum b n l e f g = let first : cond b n 0 ≡ n = ap (λ (c : Bool). cond c n 0) e in omega arith

    -- The open query that comes of an ask.
    opens : (server : Addr) (n : Name) (u : ℕ) (job : Job) (ask : Ask) (due : ℕ) → IsFor server n u ask → IsOpenAsk port k ask (turn ∷ past) → asks_of k (turn ∷ past) ≡ m + 1
        → IsWaitingFor port home (turn ∷ past) k (KnownIn port k (turn ∷ past)) (type_number (who.query).kind) (who.query).name server n u job → IsOpenFor port home turn past k (type_number (who.query).kind) now clock Mine mine d m job
        → IsOpenSound port home (turn ∷ past) (open_query k who job ask due)
    opens server n u job ask due for_it asked one work timely = record {
      came = came;
      born = subst (λ (x : ℕ). IsBorn port home k who x (turn ∷ past)) (sym timely.deadline_is) born;
      wanted = wanted;
      asked = asked;
      work = subst (λ (a : Addr). IsWaitingFor port home (turn ∷ past) k (KnownIn port k (turn ∷ past)) (type_number (who.query).kind) (who.query).name a ask.name ask.kind job) (sym for_it.server)
          (subst (λ (m : Name). IsWaitingFor port home (turn ∷ past) k (KnownIn port k (turn ∷ past)) (type_number (who.query).kind) (who.query).name server m ask.kind job) (sym for_it.name)
          (subst (λ (v : ℕ). IsWaitingFor port home (turn ∷ past) k (KnownIn port k (turn ∷ past)) (type_number (who.query).kind) (who.query).name server n v job) (sym for_it.kind) work));
      known = known_for_good port home (turn ∷ past) k (type_number (who.query).kind) Mine job.chain timely.chain;
      remote = timely.remote;
      plain = timely.plain;
      asks = timely.sent_is ∙ sym one;
      few = subst (λ (x : ℕ). x ≤ 40) (sym one) (within timely.few);
    }
      where
        within : m < 40 → m + 1 ≤ 40
        within lt = omega arith

    waits_on : (ask : Ask) (job : Job) (stores : Stores) (due asks : ℕ) (out : List Action) (new : State) → AreHeld port home (turn ∷ past) stores
        → Waits s (open_query k who job ask due) opened asks stores out new → IsOpenSound port home (turn ∷ past) (open_query k who job ask due) → IsExplained port home (turn ∷ past) new
    waits_on ask job stores due asks out new told w sound =
        let total : new.opened ≡ opened = ap (λ (x : State). x.opened) w.state in
        waiting (open_query k who job ask due) new (subst (λ (m : ℕ). s.opened ≤ m) (sym total) more) (subst (λ (m : ℕ). k < m) (sym total) count)
        (subst (AreHeld port home (turn ∷ past)) (sym (ap (λ (x : State). x.stores) w.state)) told) w.queries is sound

    module _ (server : Addr) (n : Name) (u : ℕ) (job : Job) (stores : Stores) (out : List Action) (new : State) (goes : (a : Action) → Contains out a → GivesOut turn.out a) (counts : asks_in turn.out ≡ asks_among out)
        (told : AreHeld port home (turn ∷ past) stores) (work : IsWaitingFor port home (turn ∷ past) k (KnownIn port k (turn ∷ past)) (type_number (who.query).kind) (who.query).name server n u job)
        (timely : IsOpenFor port home turn past k (type_number (who.query).kind) now clock Mine mine d m job) where
      pub by_udp : WaitsByUdp s who k opened server n u job stores out new → IsExplained port home (turn ∷ past) new
      by_udp w =
          let sent = subst (λ (p : ℕ). IsSent p w.ask w.waits.action) at w.waits.sent in
          let gives = goes w.waits.action (subst (λ (l : List Action). Contains l w.waits.action) (sym w.waits.out_is) (Contains-head w.waits.action [])) in
          waits_on w.ask job stores _ _ out new told w.waits
          (opens server n u job w.ask _ w.for (subst (λ (p : Path). AsksBy port k w.ask p (turn ∷ past)) (sym w.goes.path) (inl (is, (w.waits.action, gives, sent))))
          (one_more w.waits.action w.ask out sent w.waits.out_is counts) work timely)

      pub by_tcp : BringsTruncated port k server n u turn past → WaitsByTcp s who k opened server n u job stores out new → IsExplained port home (turn ∷ past) new
      by_tcp short w =
          let sent = subst (λ (p : ℕ). IsSent p w.ask w.waits.action) at w.waits.sent in
          let gives = goes w.waits.action (subst (λ (l : List Action). Contains l w.waits.action) (sym w.waits.out_is) (Contains-head w.waits.action [])) in
          let same = subst (λ (a : Addr). BringsTruncated port k a (w.ask).name (w.ask).kind turn past) (sym w.for.server)
          (subst (λ (m : Name). BringsTruncated port k server m (w.ask).kind turn past) (sym w.for.name) (subst (λ (v : ℕ). BringsTruncated port k server n v turn past) (sym w.for.kind) short)) in
          waits_on w.ask job stores _ _ out new told w.waits
          (opens server n u job w.ask _ w.for (subst (λ (p : Path). AsksBy port k w.ask p (turn ∷ past)) (sym w.goes.path) (inl (is, (w.waits.action, gives, sent), same)))
          (one_more w.waits.action w.ask out sent w.waits.out_is counts) work timely)

  -- A query that is over.
  pub ends_so : (who : ClientQuery) (k : ℕ) (o : Outcome Plain) (stores : Stores) (out : List Action) (new : State) → AreHeld port home (turn ∷ past) stores → Ends s who k o stores out new
      → ((q : Open) → Contains s.queries q → q.number ≢ k → turn.served ≢ OpenQuery q.number) → ((j : ℕ) → s.opened ≤ j → is_for j turn.served ≡ false) → IsExplained port home (turn ∷ past) new
  ends_so who k o stores out new told e apart free =
      ended k new (ap (λ (x : State). x.opened) e.state) (subst (AreHeld port home (turn ∷ past)) (sym (ap (λ (x : State). x.stores) e.state)) told) e.queries apart free

  -- Nothing happens.
  pub same_state : (new : State) → new ≡ s → ((n : ℕ) → turn.served ≢ OpenQuery n) → ((j : ℕ) → is_for j turn.served ≡ false) → IsExplained port home (turn ∷ past) new
  same_state new e apart free = subst (IsExplained port home (turn ∷ past)) (sym e) (record {
    told = held_later port home turn past s.stores h.told;
    queries = λ q c. open_later port home turn past q (apart q.number) (h.queries q c);
    below = h.below;
    unasked = λ j le. unasked_later port home turn past j (free j) (h.unasked j le);
  })
