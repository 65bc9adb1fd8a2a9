-- The first key of the index by due moments.
use Rattle.std.proofs.Common.{◌≡◌, ℕ, ◌<◌, ◌↔◌, true, false, Option, Some, None, List, [], ◌∷◌, length, refl, sym, ◌∙◌, ap, subst, arith, eq-eqb, eqb-true, Bor}
use Rattle.std.proofs.lemmas.Bool.{false≢true}
use Rattle.std.specs.Option.{IsSome, IfSome, option_copied}
use Rattle.std.specs.BTreeSet.{BTreeSet, btree_set_len, contains, IsLowerBound}
use Rattle.std.specs.Bool.{IsTrue}
use Rattle.asks.specs.declared.ask.AskKey.{AskKey}
use Rattle.asks.specs.declared.ask.Waiting.{Waiting}
use Rattle.asks.specs.Waits.{waiting, IsEarliestWait, IsEarliest}
use Rattle.asks.specs.Indexes.{due_cmp, is_due, AreIndexes}
use Rattle.asks.proofs.Due.{no_later}

none_due : (o : Option Waiting) → ((d : ℕ) → false ≡ is_due d o) → o ≡ None
none_due None h = refl
none_due (Some w) h = absurd (false≢true (h w.due ∙ eq-eqb w.due w.due refl))

no_query : (asks : List (ℕ × Waiting)) (by_ask : List (AskKey × ℕ)) (by_due : List (ℕ × ℕ)) → AreIndexes asks by_ask by_due → (0 < length by_due → ⊥) → (query : ℕ) → waiting asks query ≡ None
no_query asks by_ask [] h none query = none_due (waiting asks query) (λ d. h.due d query)
no_query asks by_ask (k ∷ ks) h none query = absurd (none (omega arith))

record Waits (due : ℕ) (o : Option Waiting) : Type 0 where
  pub now : Waiting
  pub is : o ≡ Some now
  pub due_is : now.due ≡ due

waits : (due : ℕ) (o : Option Waiting) → is_due due o ≡ true → Waits due o
waits due None h = absurd (false≢true h)
waits due (Some w) h = record { now = w; is = refl; due_is = eqb-true w.due due h }

leads : (asks : List (ℕ × Waiting)) (by_ask : List (AskKey × ℕ)) (by_due : BTreeSet (ℕ × ℕ)) → AreIndexes asks by_ask by_due.keys → (k : ℕ × ℕ) → contains due_cmp by_due k ≡ true → IsLowerBound due_cmp by_due k → IsEarliestWait asks k.0 k.1
leads asks by_ask by_due h k member least =
    let one = waits k.0 (waiting asks k.1) (sym (h.due k.0 k.1) ∙ member) in
    record {
      now = one.now;
      waits = one.is;
      due_is = one.due_is;
      first = λ other w is. no_later k.0 k.1 w.due other (least (w.due, other) (h.due w.due other ∙ (ap (is_due w.due) is ∙ eq-eqb w.due w.due refl)));
    }

pub earliest : (asks : List (ℕ × Waiting)) (by_ask : List (AskKey × ℕ)) (by_due : BTreeSet (ℕ × ℕ)) → AreIndexes asks by_ask by_due.keys → (o : Option (Bor (ℕ × ℕ))) → IsSome o ↔ (0 < btree_set_len by_due)
    → IfSome o (λ k. IsTrue (contains due_cmp by_due k.now)) → IfSome o (λ k. IsLowerBound due_cmp by_due k.now) → (r : Option (ℕ × ℕ)) → r ≡ option_copied o → IsEarliest asks r
earliest asks by_ask by_due h None some member least r e = subst (IsEarliest asks) (sym e) (no_query asks by_ask by_due.keys h (λ lt. false≢true (some.1 lt)))
earliest asks by_ask by_due h (Some k) some member least r e = subst (IsEarliest asks) (sym e) (leads asks by_ask by_due h k.now member least)
