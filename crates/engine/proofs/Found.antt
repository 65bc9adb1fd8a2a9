-- What is found of an open query by its number, and what its ask comes to.
use Rattle.std.proofs.Common.{◌≡◌, ℕ, ◌<◌, ◌≤◌, ◌⊎◌, inl, inr, Bool, true, false, leb, MatchBool, Option, Some, None, List, [], ◌∷◌, Contains, refl, sym, ◌∙◌, ap, subst, arith}
use Rattle.std.proofs.lemmas.Bool.{leb-true, leb-false}
use Rattle.std.specs.Prelude.{MatchOption}
use Rattle.zone.proofs.LawLists.{none_in, in_cases}
use Rattle.rdata.specs.declared.addr.Addr.{Addr}
use Rattle.causes.specs.declared.cause.Cause.TheVariants as cause
use Rattle.front.specs.declared.queries.Outcome.TheVariants as outcome
use Rattle.resolution.specs.Jobs.{Input}
use Rattle.resolution.specs.Stops.{Stops}
use Rattle.runs.specs.States.{Endpoint, Action, ClientQuery, Ask, ByUdp, ByTcp, Open, due_moment, AreApart, State}
use Rattle.runs.specs.Steps.{Ends, Serves, IsLeft, IsOfNumber, IsFirstDue}
use Rattle.open_queries.specs.Lookups.{IsOnLine, IsOnStream, Stands, IsFound, IsNoLater, IsEarliestQuery, IsTheOne, IsTaken}
use Rattle.engine.specs.Moves.{ServesOne, DropsOne, Forgets, IsLike, DropsAsking}
use Rattle.engine.specs.Finds.{Finds, OfTheOne, IsOffLine, Reaches, NoneDue, IsLateOne, IsEarlyOne, Tells, Untold, Expires}
use Rattle.engine.proofs.Lift.{ends_too}

alone_of : (qs : List Open) → AreApart qs → (p q : Open) → Contains qs p → Contains qs q → p.number ≡ q.number → p ≡ q
alone_of [] apart p q mp mq same = absurd (none_in p mp)
alone_of (x ∷ qs) apart p q mp mq same = by (in_cases x p qs mp) (in_cases x q qs mq) (λ a b. alone_of qs apart.1 p q a b same)
  where
    by : (x ≡ p) ⊎ Contains qs p → (x ≡ q) ⊎ Contains qs q → (Contains qs p → Contains qs q → p ≡ q) → p ≡ q
    by (inl e) (inl f) more = sym e ∙ f
    by (inl e) (inr m) more = absurd (apart.0 q m (sym same ∙ ap (λ (o : Open). o.number) (sym e)))
    by (inr m) (inl f) more = absurd (apart.0 p m (same ∙ ap (λ (o : Open). o.number) (sym f)))
    by (inr a) (inr b) more = more a b

pub finds : (IsSo : Open → Type 0) (qs : List Open) (k : ℕ) → AreApart qs → Stands IsSo qs k → Finds IsSo qs k
finds IsSo qs k apart h = record {
  query = h.query;
  one = record {
    stands = h.stands;
    number_is = h.number_is;
    alone = λ p there same. alone_of qs apart p h.query there h.stands (same ∙ sym h.number_is);
  };
  is = h.is;
}

-- Whichever query is found under the number is so.
pub found_is : (IsSo : Open → Type 0) (qs : List Open) (k : ℕ) (q : Open) → Finds IsSo qs k → IsTheOne qs k q → IsSo q
found_is IsSo qs k q h one = subst IsSo (one.alone h.query h.one.stands h.one.number_is) h.is

pub tells : (s : State) (k : ℕ) (word : Addr → Input) (server : Addr) (out : List Action) (new : State) → OfTheOne s.queries k (λ q. server ≡ (q.ask).server) → ServesOne s k (word server) out new → Tells s k word out new
tells s k word server out new asked h = record {
  query = h.query;
  one = h.one;
  serves = subst (λ (x : Addr). Serves s h.query (word x) out new) (asked h.query h.one) h.serves;
}

pub untold : (s : State) (k : ℕ) (word : Addr → Input) (server : Addr) (new : State) → OfTheOne s.queries k (λ q. server ≡ (q.ask).server) → DropsOne s k (word server) new → Untold s k word new
untold s k word server new asked h = record {
  query = h.query;
  one = h.one;
  left = subst (λ (x : Addr). IsLeft s k (Stops (s.site).home s.clock (word x) h.query.job s.stores) new) (asked h.query h.one) h.left;
}

pub expires : (s : State) (k : ℕ) (q : Open) (others : List Open) (who : ClientQuery) (out : List Action) (new : State) → IsTaken s.queries k q others → who ≡ q.client_query
    → Ends (record s { queries = others }) who k (outcome.Fail cause.DeadlineOver) s.stores out new → Expires s k out new
expires s k q others who out new taken is h =
    let at_number : Ends s who k (outcome.Fail cause.DeadlineOver) s.stores out new = ends_too s k others s.stores taken.others who (outcome.Fail cause.DeadlineOver) s.stores out new h in
    record {
      query = q;
      one = taken.one;
      ends = subst (λ (w : ClientQuery). Ends s w q.number (outcome.Fail cause.DeadlineOver) s.stores out new) is
          (subst (λ (n : ℕ). Ends s who n (outcome.Fail cause.DeadlineOver) s.stores out new) (sym taken.one.number_is) at_number);
    }

-- ---- look-ups

pub reaches : (s : State) (sock : ℕ) (from : Endpoint) (id : ℕ) (o : Option ℕ) → AreApart s.queries → from.port ≡ (s.site).port
    → IsFound (IsOnLine sock from.address id) s.queries o → MatchOption o (IsOffLine s sock from id) (Reaches s sock from id)
reaches s sock from id None apart port none = inr none
reaches s sock from id (Some k) apart port h = record { port = port; found = finds (IsOnLine sock from.address id) s.queries k apart h }

pub asked : (qs : List Open) (ask : ℕ) (o : Option ℕ) → AreApart qs → IsFound (IsOnStream ask) qs o
    → MatchOption o ((q : Open) → Contains qs q → IsOfNumber ask q → ⊥) (λ k. Finds (IsOfNumber ask) qs k)
asked qs ask None apart none = none
asked qs ask (Some k) apart h = finds (IsOfNumber ask) qs k apart h

-- The query whose ask is like this one.
module _ (qs : List Open) (a : Ask) where
  abbrev IsOfAsk : Option ℕ → Type 0
  IsOfAsk o = MatchOption o ((q : Open) → Contains qs q → IsLike a q → ⊥) (λ k. Finds (IsLike a) qs k)

  pub like_udp : (sock : ℕ) (o : Option ℕ) → AreApart qs → a.path ≡ ByUdp sock → IsFound (IsOnLine sock a.server a.id) qs o → IsOfAsk o
  like_udp sock None apart path none = λ q there like. let both = like.1 sock path in none q there (like.0 ∙ path, both.0, both.1)
  like_udp sock (Some k) apart path h =
      finds (IsLike a) qs k apart record { query = h.query; stands = h.stands; is = (h.is.0 ∙ sym path, λ s udp. (h.is.1, h.is.2)); number_is = h.number_is }

  not_both : (number sock : ℕ) → a.path ≡ ByTcp number → a.path ≡ ByUdp sock → ⊥
  not_both number sock tcp udp = let clash : ByTcp number ≡ ByUdp sock = sym tcp ∙ udp in cc

  pub like_tcp : (number : ℕ) (o : Option ℕ) → AreApart qs → a.path ≡ ByTcp number → IsFound (IsOnStream number) qs o → IsOfAsk o
  like_tcp number None apart path none = λ q there like. none q there (like.0 ∙ path)
  like_tcp number (Some k) apart path h =
      finds (IsLike a) qs k apart record { query = h.query; stands = h.stands; is = (h.is ∙ sym path, λ s udp. absurd (not_both number s path udp)); number_is = h.number_is }

pub drops : (s : State) (a : Ask) (k : ℕ) (new : State) → Finds (IsLike a) s.queries k → Forgets s k new → DropsAsking a s new
drops s a k new h gone =
    let taken = gone.taken in
    inr (
      gone.query,
      found_is (IsLike a) s.queries k gone.query h taken.one,
      subst (λ (n : ℕ). IsTaken s.queries n gone.query new.queries) (sym taken.one.number_is) taken,
      gone.state,
    )

pub is_due : (s : State) (due k : ℕ) → AreApart s.queries → IsEarliestQuery s.queries due k → due ≤ s.clock → Finds (IsFirstDue s) s.queries k
is_due s due k apart h now = finds (IsFirstDue s) s.queries k apart record {
  query = h.query;
  stands = h.stands;
  is = record {
    stands = h.stands;
    due = let moment = h.due_is in omega arith;
    first = λ p there. subst (λ (d : ℕ). IsNoLater d h.query.number p) (sym h.due_is) (subst (λ (n : ℕ). IsNoLater due n p) (sym h.number_is) (h.first p there));
  };
  number_is = h.number_is;
}

pub none_is_due : (s : State) (due k : ℕ) → IsEarliestQuery s.queries due k → s.clock < due → NoneDue s
none_is_due s due k h later p there = elim (h.first p there) [ inl after ↦ omega arith | inr both ↦ (let same : due ≡ due_moment p = both.0 in omega arith) ]

pub none_open : (s : State) → s.queries ≡ [] → NoneDue s
none_open s empty p there = absurd (none_in p (subst (λ (qs : List Open). Contains qs p) empty there))

by_test : (b : Bool) (P Q : Type 0) → (b ≡ true → P) → (b ≡ false → Q) → MatchBool b P Q
by_test true P Q f g = f refl
by_test false P Q f g = g refl

pub late_or_early : (s : State) (k deadline : ℕ) (q : Open) → IsTheOne s.queries k q → deadline ≡ (q.job).deadline → MatchBool (leb deadline s.clock) (IsLateOne s k) (IsEarlyOne s k)
late_or_early s k deadline q one is = by_test (leb deadline s.clock) (IsLateOne s k) (IsEarlyOne s k)
    (λ test p other. subst (λ (o : Open). (o.job).deadline ≤ s.clock) (sym (one.alone p other.stands other.number_is)) (subst (λ (d : ℕ). d ≤ s.clock) is (leb-true deadline s.clock test)))
    (λ test p other. subst (λ (o : Open). s.clock < (o.job).deadline) (sym (one.alone p other.stands other.number_is)) (subst (λ (d : ℕ). s.clock < d) is (leb-false deadline s.clock test)))
