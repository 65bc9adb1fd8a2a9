-- Every reply that is counted is right.
use Rattle.std.proofs.Common.{◌≡◌, refl, ℕ, zero, suc, ◌+◌, ◌-◌, ◌<◌, ◌≤◌, ◌⊎◌, inl, inr, ⊎_elim, Bool, true, false, cond, nat_eq, eqb, Option, Some, None, Result, Ok, Err, List, [], ◌∷◌, ◌++◌, length, map, reverse, get_or, sym, ◌∙◌, ap, subst, arith}
use Rattle.std.specs.Prelude.{Contains, slice_get, filter}
use Rattle.std.proofs.lemmas.Bool.Decides.{nat_tests}
use Rattle.std.proofs.lemmas.Bool.{eq-eqb}
use Rattle.std.proofs.lemmas.List.{length_push, reverse-append, reverse-reverse}
use Rattle.zone.proofs.LawLists.{none_in, first_in, later_in, in_cases}
use Rattle.dname.specs.Labels.{Name}
use Rattle.rdata.specs.Types.{type_number}
use Rattle.rdata.specs.declared.rtype.RType.{RType}
use Rattle.memory.specs.declared.Starved.{Starved}
use Rattle.book.specs.Histories.{lines_of, LeadsMachine}
use Rattle.causes.specs.declared.cause.Cause.{Cause}
use Rattle.wire.specs.declared.via.Via.{Via}
use Rattle.front.specs.Queries.{IsRequest}
use Rattle.front.specs.declared.queries.Query.{Query}
use Rattle.front.specs.declared.queries.Request.{Request}
use Rattle.front.specs.declared.queries.Request.TheVariants as request
use Rattle.front.proofs.Single.{asked_once}
use Rattle.world_truth.specs.Worlds.{World}
use Rattle.world_truth.specs.Replies.{IsRight}
use Rattle.runs.specs.States.{Plain, recursive}
use Rattle.laws.specs.Headline.{IsRightReply}
use Rattle.script.specs.Orders.{Order, at, ask, raw, carry, truncate, lose, run, tick}
use Rattle.network.specs.Networks.{Network, NetworkEvent, Client, Carry, CarryTruncated, CarryTcp, Lose, Tick, NetworkAction, Reply, WasSent, WasAsked, MoreDue}
use Rattle.network.specs.Laws.{Line, Shows, Throughout, RepliesAreRight, RefusesLine, IsAnswered}
use Rattle.network.proofs.Follows.{heard_of}
use Rattle.simnet.specs.declared.event.SimEvent.{SimEvent}
use Rattle.simnet.specs.declared.event.SimEvent.TheVariants as happens
use Rattle.simnet.specs.Promises.{Moves}
use Rattle.simnet.specs.Views.{sim_event_view}
use Rattle.workers.specs.Working.{Follows}
use Rattle.score.specs.Clients.{Queries, recursive_in, known, query_of}
use Rattle.score.specs.Counts.{IsFailure, IsRightFor, IsCountedFor}
use Rattle.score.specs.declared.count.Count.{Count}
use Rattle.storm.specs.Counts.{Counts, CountsOut, CountsStep, CountsAll, none_yet, IsStorm, IsTotalOf}
use Rattle.storm.specs.FollowUps.{asked, carries, follow_ups_of, moment_of}
use Rattle.storm.specs.Lists.{AsksOne, AsksQueries, AsksAll}
use Rattle.storm.specs.Runs.{Entry, IsRunOf, out_of, seen}
use Rattle.storm.specs.declared.query.StormQuery.{StormQuery}
use Rattle.storm.specs.declared.count.Totals.{Totals}

-- ---- clients and their numbers

positive : (k : ℕ) → nat_eq (suc k) 0 ≡ false
positive k = grind (arith, nat_tests)

one_less : (k : ℕ) → suc k - 1 ≡ k
one_less k = omega arith

query_next : (queries : Queries) (c : ℕ) → query_of queries (suc c) ≡ known (slice_get queries c)
query_next queries c = rw (positive c, one_less c) refl

known_before : {X : Type 0} (xs ys : List X) (i : ℕ) → i < length xs → slice_get (xs ++ ys) i ≡ slice_get xs i
known_before [] ys i lt = absurd (omega (arith, lt))
known_before (x ∷ xs) ys zero lt = refl
known_before (x ∷ xs) ys (suc i) lt = known_before xs ys i (omega (arith, lt))

known_last : {X : Type 0} (xs : List X) (y : X) (i : ℕ) → i ≡ length xs → slice_get (xs ++ y ∷ []) i ≡ Some y
known_last [] y zero is = refl
known_last [] y (suc i) is = absurd (omega (arith, is))
known_last (x ∷ xs) y zero is = absurd (omega (arith, is))
known_last (x ∷ xs) y (suc i) is = known_last xs y i (omega (arith, is))

older : (queries : Queries) (q : Option (Query Plain)) (c : ℕ) → c ≤ length queries → query_of (queries ++ q ∷ []) c ≡ query_of queries c
older queries q zero le = refl
older queries q (suc c) le =
    query_next (queries ++ q ∷ []) c ∙ ap known (known_before queries (q ∷ []) c (omega (arith, le))) ∙ sym (query_next queries c)

newest : (queries : Queries) (q : Option (Query Plain)) (c : ℕ) → c ≡ length queries → query_of (queries ++ q ∷ []) (suc c) ≡ q
newest queries q c is = query_next (queries ++ q ∷ []) c ∙ ap known (known_last queries q c is)

-- What a client asks is known under its number.
pub record Knows (clients : Queries) (c : ℕ) (bytes : List ℕ) : Type 0 where
  pub below : c ≤ length clients
  pub is : (a : Request Plain) → IsRequest bytes a → query_of clients c ≡ recursive_in a

-- There are more clients, and the older ones are the same.
record Grows (old new : Queries) : Type 0 where
  pub long : length old ≤ length new
  pub same : (c : ℕ) → c ≤ length old → query_of new c ≡ query_of old c

grows_none : (old : Queries) → Grows old old
grows_none old = record { long = omega arith; same = λ c le. refl }

grows_both : (a b c : Queries) → Grows a b → Grows b c → Grows a c
grows_both a b c f g = record {
  long = let one = f.long in let two = g.long in omega (arith, one, two);
  same = λ k le. g.same k (let one = f.long in omega (arith, one, le)) ∙ f.same k le;
}

knows_still : (a b : Queries) (c : ℕ) (bytes : List ℕ) → Grows a b → Knows a c bytes → Knows b c bytes
knows_still a b c bytes g k = record {
  below = let one = k.below in let two = g.long in omega (arith, one, two);
  is = λ reads h. g.same c k.below ∙ k.is reads h;
}

-- ---- what scripts ask

module _ {A : Type 0} where
  abbrev AllKnown : Queries → List (StormQuery A) → Type 0
  AllKnown clients qs = (q : StormQuery A) → Contains qs q → Knows clients q.client q.bytes

  one_known : (now : ℕ) (name : Name) (kind : RType) (by : Via) (rd : Bool) (q : StormQuery A) (old new : Queries) → AsksOne now name kind by rd q old new
      → Grows old new × Knows new q.client q.bytes
  one_known now name kind by rd q old new h =
      let (wish, (reads, hears, wished), grown) = h.heard in
      let number = h.client in
      let long = length_push old wish in (
        subst (Grows old) (sym grown) (record { long = omega (arith, long); same = λ c le. older old wish c le }),
        subst (λ (l : Queries). Knows l q.client q.bytes) (sym grown) (record {
          below = omega (arith, number, long);
          is = λ a asks. ap (query_of (old ++ wish ∷ [])) (let e : q.client ≡ suc (length old) = omega (arith, number) in e) ∙ newest old wish (length old) refl
              ∙ wished ∙ ap recursive_in (asked_once q.bytes reads a hears asks);
        }),
      )

  known_in : (now : ℕ) (os : List Order) (old : Queries) (qs : List (StormQuery A)) (new : Queries) → AsksQueries now os old qs new → Grows old new × AllKnown new qs
  known_in now [] old qs new (none, same) =
      (subst (Grows old) (sym same) (grows_none old), λ q among. absurd (none_in q (subst (λ (l : List (StormQuery A)). Contains l q) none among)))
  known_in now (at n ∷ os) old qs new h = known_in n os old qs new h
  known_in now (ask name kind by rd ∷ os) old qs new (p, rest, middle, is, one, more) =
      let (first, knows) = one_known now name kind by rd p old middle one in
      let (others, all) = known_in now os middle rest new more in (
        grows_both old middle new first others,
        λ q among. ⊎_elim
            (λ same. subst (λ (x : StormQuery A). Knows new x.client x.bytes) same (knows_still middle new p.client p.bytes others knows))
            (λ among_rest. all q among_rest)
            (in_cases p q rest (subst (λ (l : List (StormQuery A)). Contains l q) is among)),
      )
  known_in now (raw bytes by ∷ os) old qs new h = absurd h
  known_in now (carry k ∷ os) old qs new h = absurd h
  known_in now (truncate k ∷ os) old qs new h = absurd h
  known_in now (lose k ∷ os) old qs new h = absurd h
  known_in now (run ∷ os) old qs new h = absurd h
  known_in now (tick ∷ os) old qs new h = absurd h

  known_all : (scripts : List (List Order)) (old : Queries) (lists : List (List (StormQuery A))) (new : Queries) → AsksAll scripts old lists new
      → Grows old new × ((l : List (StormQuery A)) → Contains lists l → AllKnown new l)
  known_all [] old lists new (none, same) =
      (subst (Grows old) (sym same) (grows_none old), λ l among. absurd (none_in l (subst (λ (ls : List (List (StormQuery A))). Contains ls l) none among)))
  known_all (script ∷ scripts) old lists new (list, rest, middle, is, asks, more) =
      let (first, knows) = known_in 0 script old list middle asks in
      let (others, all) = known_all scripts middle rest new more in (
        grows_both old middle new first others,
        λ l among. ⊎_elim
            (λ same. subst (λ (x : List (StormQuery A)). AllKnown new x) same (λ q in_list. knows_still middle new q.client q.bytes others (knows q in_list)))
            (λ among_rest. all l among_rest)
            (in_cases list l rest (subst (λ (ls : List (List (StormQuery A))). Contains ls l) is among)),
      )

-- ---- what workers put

-- A client's bytes are known under its number.
abbrev Fair : Queries → NetworkEvent → Type 0
Fair clients (Client now c way bytes) = Knows clients c bytes
Fair clients (Carry now k) = Unit {0}
Fair clients (CarryTruncated now k) = Unit {0}
Fair clients (CarryTcp now k) = Unit {0}
Fair clients (Lose now k) = Unit {0}
Fair clients (Tick now) = Unit {0}

in_append : {X : Type 0} (xs ys : List X) (x : X) → Contains (xs ++ ys) x → Contains xs x ⊎ Contains ys x
in_append [] ys x among = inr among
in_append (y ∷ xs) ys x among =
    ⊎_elim (λ same. inl (subst (λ z. Contains (y ∷ xs) z) same (first_in y xs)))
    (λ rest. ⊎_elim (λ left. inl (later_in y x xs left)) (λ right. inr right) (in_append xs ys x rest))
    (in_cases y x (xs ++ ys) among)

in_reverse : {X : Type 0} (xs : List X) (x : X) → Contains (reverse xs) x → Contains xs x
in_reverse [] x among = absurd (none_in x among)
in_reverse {X} (y ∷ xs) x among =
    ⊎_elim (λ front. later_in y x xs (in_reverse xs x front))
    (λ last. ⊎_elim (λ same. subst (λ z. Contains (y ∷ xs) z) same (first_in y xs)) (λ none. absurd (none_in x none)) (in_cases y x [] last))
    (in_append (reverse xs) (y ∷ []) x (subst (λ (l : List X). Contains l x) (reverse-append (y ∷ []) xs) among))

module _ {A : Type 0} (clients : Queries) where
  abbrev FairEvent : SimEvent A → Type 0
  FairEvent event = Fair clients (sim_event_view event)

  fair_carries : (now : ℕ) (out : List NetworkAction) (event : SimEvent A) → Contains (carries now out) event → FairEvent event
  fair_carries now [] event among = absurd (none_in event among)
  fair_carries now (Reply client way bytes cause ∷ out) event among = fair_carries now out event among
  fair_carries now (WasSent k ∷ out) event among =
      ⊎_elim (λ same. subst FairEvent same tt) (λ rest. fair_carries now out event rest) (in_cases (happens.Carry now k) event (carries now out) among)
  fair_carries now (WasAsked k ∷ out) event among =
      ⊎_elim (λ same. subst FairEvent same tt) (λ rest. fair_carries now out event rest) (in_cases (happens.CarryTcp now k) event (carries now out) among)
  fair_carries now (MoreDue ∷ out) event among = fair_carries now out event among

  fair_follow_ups : (from : SimEvent A) (out : Result (List NetworkAction) Starved) (event : SimEvent A) → Contains (follow_ups_of from out) event → FairEvent event
  fair_follow_ups from (Ok out) event among = fair_carries (moment_of from) out event among
  fair_follow_ups from (Err starved) event among = absurd (none_in event among)

  abbrev AllFair : List (Entry A) → Type 0
  AllFair es = (e : Entry A) → Contains es e → FairEvent e.event

  fair_work : (es : List (Entry A)) (qs : List (StormQuery A)) (waiting : List (SimEvent A)) → AllKnown clients qs → ((event : SimEvent A) → Contains waiting event → FairEvent event)
      → Follows asked follow_ups_of es qs waiting → AllFair es
  fair_work [] qs waiting knows fair h e among = absurd (none_in e among)
  fair_work (e ∷ es) qs (next ∷ waiting) knows fair (is, more) x among =
      ⊎_elim (λ same. subst (λ (y : Entry A). FairEvent y.event) same (subst FairEvent (sym is) (fair next (first_in next waiting))))
      (λ rest. fair_work es qs (waiting ++ follow_ups_of e.event e.out) knows
      (λ event some. ⊎_elim (λ old. fair event (later_in next event waiting old)) (λ new. fair_follow_ups e.event e.out event new) (in_append waiting (follow_ups_of e.event e.out) event some))
      more x rest)
      (in_cases e x es among)
  fair_work (e ∷ es) (q ∷ qs) [] knows fair (is, more) x among =
      ⊎_elim (λ same. subst (λ (y : Entry A). FairEvent y.event) same (subst FairEvent (sym is) (knows q (first_in q qs))))
      (λ rest. fair_work es qs (follow_ups_of e.event e.out) (λ p some. knows p (later_in q p qs some)) (λ event some. fair_follow_ups e.event e.out event some) more x rest)
      (in_cases e x es among)
  fair_work (e ∷ es) [] [] knows fair h x among = absurd h

-- ---- all of them together

in_cond_first : {X : Type 0} (b : Bool) (x : X) (xs : List X) → b ≡ true → Contains (cond b (x ∷ xs) xs) x
in_cond_first true x xs is = first_in x xs
in_cond_first false x xs is = absurd (cc)

in_cond_rest : {X : Type 0} (b : Bool) (x y : X) (xs : List X) → Contains xs y → Contains (cond b (x ∷ xs) xs) y
in_cond_rest true x y xs among = later_in x y xs among
in_cond_rest false x y xs among = among

in_filter : {X : Type 0} (p : X → Bool) (xs : List X) (x : X) → Contains xs x → p x ≡ true → Contains (filter p xs) x
in_filter p [] x among is = absurd (none_in x among)
in_filter p (y ∷ xs) x among is =
    ⊎_elim (λ same. subst (λ z. Contains (filter p (y ∷ xs)) z) same (in_cond_first (p y) y (filter p xs) (ap p same ∙ is)))
    (λ rest. in_cond_rest (p y) y x (filter p xs) (in_filter p xs x rest is)) (in_cases y x xs among)

in_at : {X : Type 0} (xs : List X) (i : ℕ) (d : X) → i < length xs → Contains xs (get_or xs i d)
in_at [] i d lt = absurd (omega (arith, lt))
in_at (x ∷ xs) zero d lt = first_in x xs
in_at (x ∷ xs) (suc i) d lt = later_in x (get_or xs i d) xs (in_at xs i d (omega (arith, lt)))

turned : {X : Type 0} (xs : List X) (x : X) → Contains xs x → Contains (reverse xs) x
turned {X} xs x among = in_reverse (reverse xs) x (subst (λ (l : List X). Contains l x) (sym (reverse-reverse xs)) among)

workers_in : {A : Type 0} (n : ℕ) (start : Network) (es : List (Entry A)) (t : Network) → LeadsMachine Moves n start es t → (e : Entry A) → Contains es e → e.worker < n
workers_in n start [] t h e among = absurd (none_in e among)
workers_in {A} n start (x ∷ es) t (s, earlier, moved, small, number) e among =
    ⊎_elim (λ same. subst (λ (y : Entry A). y.worker < n) same small) (λ rest. workers_in n start es s earlier e rest) (in_cases x e es among)

fair_all : {A : Type 0} (clients : Queries) (start : Network) (queries : List (List (StormQuery A))) (h : List (Entry A)) (lists : List (List (Entry A)))
    → ((l : List (StormQuery A)) → Contains queries l → AllKnown clients l) → IsRunOf start queries h lists → AllFair clients h
fair_all {A} clients start queries h lists all r e among =
    let small : e.worker < length queries = workers_in (length queries) r.start (reverse h) r.state r.legal e (turned h e among) in
    let own = in_filter (λ (x : Entry A). eqb x.worker e.worker) h e among (eq-eqb e.worker e.worker refl) in
    fair_work clients (lines_of e.worker h) (get_or queries e.worker []) [] (all (get_or queries e.worker []) (in_at queries e.worker [] small))
    (λ event none. absurd (none_in event none)) (r.worked e.worker small) e own

-- ---- one reply

right_reply : (W : World) (way : Via) (n : Name) (t : ℕ) (bytes : List ℕ) → IsRightReply W way n t bytes → IsFailure bytes ⊎ IsRight W n t bytes
right_reply W way n t bytes (inl failed) = inl (failed.message, failed.is, failed.rcode)
right_reply W way n t bytes (inr (inl short)) = inr (short.message, short.is, short.to, inl short.bare)
right_reply W way n t bytes (inr (inr whole)) = inr (whole.message, whole.is, whole.to, inr whole.whole)

by_wish : (b : Bool) (p q : Query Plain) → cond b (Some p) None ≡ Some q → (b ≡ true) × (p ≡ q)
by_wish true p q e = (refl, cc)
by_wish false p q e = absurd (cc)

module _ (W : World) (clients : Queries) where
  abbrev IsFit : List ℕ → ℕ → Type 0
  IsFit bytes client = (q : Query Plain) → query_of clients client ≡ Some q → IsFailure bytes ⊎ IsRightFor W q bytes

  heard_in : {A : Type 0} (es : List (Entry A)) → AllFair clients es → (l : Line) → Contains (map seen es) l → (now c : ℕ) (way : Via) (bytes : List ℕ)
      → l.event ≡ Client now c way bytes → Knows clients c bytes
  heard_in [] fair l among now c way bytes is = absurd (none_in l among)
  heard_in (e ∷ es) fair l among now c way bytes is =
      ⊎_elim (λ same. subst (Fair clients) (ap (λ (x : Line). x.event) same ∙ is) (fair e (first_in e es)))
      (λ rest. heard_in es (λ x some. fair x (later_in e x es some)) l rest now c way bytes is) (in_cases (seen e) l (map seen es) among)

  to_refused : {A : Type 0} (e : Entry A) (es : List (Entry A)) → AllFair clients (e ∷ es) → (client : ℕ) (way : Via) → RefusesLine (seen e) client way → query_of clients client ≡ None
  to_refused e es fair client way (refusal, start, echo, (now, bytes, is, reads)) =
      (heard_in (e ∷ es) fair (seen e) (first_in (seen e) (map seen es)) now client way bytes is).is (request.Refuse refusal start echo) reads

  to_query : {A : Type 0} (e : Entry A) (es : List (Entry A)) → AllFair clients (e ∷ es) → (client : ℕ) (way : Via) (bytes : List ℕ)
      → RefusesLine (seen e) client way ⊎ IsAnswered W (seen e) (map seen es) client way bytes → (q : Query Plain) → query_of clients client ≡ Some q → IsFailure bytes ⊎ IsRightFor W q bytes
  to_query x es fair client way bytes (inl refused) q e = let none = to_refused x es fair client way refused in absurd (cc)
  to_query x es fair client way bytes (inr answered) q e =
      let (l, among, (now, sent, is, reads)) = heard_of (seen x) (map seen es) client way answered.query answered.to in
      let (wish, same) = by_wish (recursive answered.query) answered.query q (sym ((heard_in (x ∷ es) fair l among now client way sent is).is (request.Query answered.query) reads) ∙ e) in
      subst (λ (p : Query Plain). IsFailure bytes ⊎ IsRightFor W p bytes) same (right_reply W way (answered.query).name (type_number (answered.query).kind) bytes (answered.right wish))

  abbrev AreFit : Option (List NetworkAction) → Type 0
  AreFit out = (client : ℕ) (way : Via) (bytes : List ℕ) (c : Option Cause) → Shows out (Reply client way bytes c) → IsFit bytes client

  fit_in : {A : Type 0} (es : List (Entry A)) → AllFair clients es → Throughout (RepliesAreRight W) (map seen es) → (e : Entry A) → Contains es e → AreFit (out_of e.out)
  fit_in [] fair right e among = absurd (none_in e among)
  fit_in {A} (x ∷ es) fair (here, before) e among =
      ⊎_elim (λ same. subst (λ (y : Entry A). AreFit (out_of y.out)) same (λ client way bytes c shows. to_query x es fair client way bytes (here client way bytes c shows)))
      (λ rest. fit_in es (λ y some. fair y (later_in x y es some)) before e rest) (in_cases x e es among)

  -- ---- the count

  abbrev IsEven : Count → Type 0
  IsEven c = c.right ≡ c.replies

  count_even : (o : Option (Query Plain)) (bytes : List ℕ) → ((q : Query Plain) → o ≡ Some q → IsFailure bytes ⊎ IsRightFor W q bytes) → (old new : Count)
      → IsCountedFor W o bytes old new → IsEven old → IsEven new
  count_even None bytes all old new same even = subst IsEven (sym same) even
  count_even (Some q) bytes all old new (inl (failed, same)) even = subst IsEven (sym same) even
  count_even (Some q) bytes all old new (inr (whole, inl (right, one))) even = subst IsEven (sym one) (ap (λ (n : ℕ). n + 1) even)
  count_even (Some q) bytes all old new (inr (whole, inr (wrong, one))) even = ⊎_elim (λ failed. absurd (whole failed)) (λ right. absurd (wrong right)) (all q refl)

  action_even : (a : NetworkAction) (rest : List NetworkAction) → AreFit (Some (a ∷ rest)) → (old new : Count) → Counts W clients a old new → IsEven old → IsEven new
  action_even (Reply client way bytes c) rest fit old new counts even =
      count_even (query_of clients client) bytes (fit client way bytes c (first_in (Reply client way bytes c) rest)) old new counts even
  action_even (WasSent k) rest fit old new same even = subst IsEven (sym same) even
  action_even (WasAsked k) rest fit old new same even = subst IsEven (sym same) even
  action_even MoreDue rest fit old new same even = subst IsEven (sym same) even

  out_even : (out : List NetworkAction) → AreFit (Some out) → (old new : Count) → CountsOut W clients out old new → IsEven old → IsEven new
  out_even [] fit old new same even = subst IsEven (sym same) even
  out_even (a ∷ rest) fit old new (middle, one, more) even =
      out_even rest (λ client way bytes c among. fit client way bytes c (later_in a _ rest among)) middle new more (action_even a rest fit old middle one even)

  step_even : (out : Option (List NetworkAction)) → AreFit out → (old new : Count) → CountsStep W clients out old new → IsEven old → IsEven new
  step_even None fit old new same even = subst IsEven (sym same) even
  step_even (Some out) fit old new counts even = out_even out fit old new counts even

  all_even : {A : Type 0} (h : List (Entry A)) → ((e : Entry A) → Contains h e → AreFit (out_of e.out)) → (old new : Count) → CountsAll W clients h old new → IsEven old → IsEven new
  all_even [] fit old new same even = subst IsEven (sym same) even
  all_even (e ∷ h) fit old new (middle, one, more) even =
      all_even h (λ x among. fit x (later_in e x h among)) middle new more (step_even (out_of e.out) (fit e (first_in e h)) old middle one even)

-- Of scripts that a worker each has asked.
pub is_storm : {A : Type 0} (start : Network) (scripts : List (List Order)) (clients : Queries) (queries : List (List (StormQuery A))) (totals : Totals) → AsksAll scripts [] queries clients
    → IsTotalOf start clients queries totals → IsStorm A start scripts totals
is_storm {A} start scripts clients queries totals asks total =
    let h = total.history in
    let fair : AllFair clients h = fair_all clients start queries h total.lists (known_all scripts [] queries clients asks).1 total.run in
    let fit = fit_in start.world clients (reverse h) (λ e among. fair e (in_reverse h e among)) total.right in
    record {
      clients = clients;
      queries = queries;
      asks = asks;
      total = total;
      all_right = all_even start.world clients h (λ e among. fit e (turned h e among)) none_yet totals.count total.counts refl;
    }

-- The same where the clients begin as none, and the workers take a slice of the lists.
pub storm_of : {A : Type 0} (start : Network) (scripts : List (List Order)) (none clients : Queries) (queries taken : List (List (StormQuery A))) (totals : Totals) → none ≡ [] → taken ≡ queries
    → AsksAll scripts none queries clients → IsTotalOf start clients taken totals → IsStorm A start scripts totals
storm_of {A} start scripts none clients queries taken totals empty same asks total =
    is_storm start scripts clients queries totals (subst (λ (old : Queries). AsksAll scripts old queries clients) empty asks)
    (subst (λ (lists : List (List (StormQuery A))). IsTotalOf start clients lists totals) same total)
