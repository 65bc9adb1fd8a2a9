-- Due moments with their queries' numbers, as keys in order.
use Rattle.std.proofs.Common.{◌≡◌, ◌≢◌, ℕ, inl, inr, Bool, true, false, cond, nat_eq, nat_lt, ◌&&◌, Option, Some, None, refl, sym, ◌∙◌, ap, arith, eq-eqb, eqb-true}
use Rattle.std.proofs.lemmas.Bool.{false≢true, false_from_ne_true}
use Rattle.std.proofs.lemmas.Bool.Decides.{nat_tests}
use Rattle.std.proofs.lemmas.Map.Keys.{le_from_not_gt}
use Rattle.std.specs.BTreeMap.{is_at}
use Rattle.std.specs.Cmp.{tied_then}
use Rattle.std.specs.Ordering.{nat_cmp, ordering_then, is_eq, is_gt}
use Rattle.std.specs.declared.cmp.Ordering.TheVariants.{Less, Equal, Greater}
use Rattle.asks.specs.declared.ask.Waiting.{Waiting}
use Rattle.asks.specs.Waits.{IsNoLater}
use Rattle.asks.specs.Indexes.{due_cmp, is_due}

lt_not_eq : (x y : ℕ) → nat_lt x y ≡ true → nat_eq x y ≡ false
lt_not_eq x y e = grind (arith, nat_tests)

tied_by : (l e : Bool) → (l ≡ true → e ≡ false) → is_eq (cond l Less (cond e Equal Greater)) ≡ e
tied_by true e f = sym (f refl)
tied_by false true f = refl
tied_by false false f = refl

tied : (x y : ℕ) → is_eq (nat_cmp x y) ≡ nat_eq x y
tied x y = tied_by (nat_lt x y) (nat_eq x y) (lt_not_eq x y)

at_pair : (d q e p : ℕ) → is_at (due_cmp (d, q)) (e, p) ≡ (nat_eq d e && nat_eq q p)
at_pair d q e p = sym (tied_then (nat_cmp d e) (nat_cmp q p)) ∙ (λ i. tied d e i && tied q p i)

pub at_both : (due query d q : ℕ) (b new old : Bool) → new ≡ cond (is_at (due_cmp (due, query)) (d, q)) b old → new ≡ cond (nat_eq due d && nat_eq query q) b old
at_both due query d q b new old e = e ∙ ap (λ (at : Bool). cond at b old) (at_pair due query d q)

-- A key that is not above another comes before it.
no_later_by : (l e : Bool) (d q f p : ℕ) → nat_lt d f ≡ l → nat_eq d f ≡ e → is_gt (ordering_then (cond l Less (cond e Equal Greater)) (nat_cmp q p)) ≡ false → IsNoLater d q f p
no_later_by true e d q f p lt eq h = inl (grind (arith, nat_tests))
no_later_by false true d q f p lt eq h = inr (eqb-true d f eq, le_from_not_gt q p h)
no_later_by false false d q f p lt eq h = absurd (false≢true (sym h))

pub no_later : (d q f p : ℕ) → is_gt (due_cmp (d, q) (f, p)) ≡ false → IsNoLater d q f p
no_later d q f p h = no_later_by (nat_lt d f) (nat_eq d f) d q f p refl refl h

-- One more key, where the query had none or that one.
one_more : (a b o : Bool) → (b ≡ true → a ≡ false → o ≡ false) → cond (a && b) true o ≡ cond b a o
one_more true true o f = refl
one_more true false o f = refl
one_more false true o f = f refl refl
one_more false false o f = refl

pub inserted : (due query : ℕ) (had : Option Waiting) (old new : ℕ → ℕ → Bool) → ((d : ℕ) → old d query ≡ is_due d had) → ((d : ℕ) → is_due d had ≡ true → due ≡ d)
    → ((d q : ℕ) → new d q ≡ cond (nat_eq due d && nat_eq query q) true (old d q)) → (d q : ℕ) → new d q ≡ cond (nat_eq query q) (nat_eq due d) (old d q)
inserted due query had old new was same step d q =
    step d q ∙ one_more (nat_eq due d) (nat_eq query q) (old d q) (λ its other.
    ap (old d) (sym (eqb-true query q its)) ∙ (was d ∙ false_from_ne_true (is_due d had) (λ t. false≢true (sym other ∙ eq-eqb due d (same d t)))))

pub same_due : (due : ℕ) (had : Option Waiting) (w : Waiting) → had ≡ Some w → w.due ≡ due → (d : ℕ) → is_due d had ≡ true → due ≡ d
same_due due had w is e d t = sym e ∙ eqb-true w.due d (ap (is_due d) (sym is) ∙ t)

pub no_due : (due : ℕ) (had : Option Waiting) → had ≡ None → (d : ℕ) → is_due d had ≡ true → due ≡ d
no_due due had is d t = absurd (false≢true (ap (is_due d) (sym is) ∙ t))

-- One more key in place of another one.
one_for_one : (h a b o : Bool) → (b ≡ true → o ≡ h) → (h ≡ true → a ≡ false) → cond (h && b) false (cond (a && b) true o) ≡ cond b a o
one_for_one true a true o f g = sym (g refl)
one_for_one false true true o f g = refl
one_for_one false false true o f g = f refl
one_for_one true true false o f g = refl
one_for_one true false false o f g = refl
one_for_one false true false o f g = refl
one_for_one false false false o f g = refl

apart : (due had d : ℕ) → had ≢ due → nat_eq had d ≡ true → nat_eq due d ≡ false
apart due had d ne e = false_from_ne_true (nat_eq due d) (λ t. ne (eqb-true had d e ∙ sym (eqb-true due d t)))

pub moved : (due query had : ℕ) (old mid new : ℕ → ℕ → Bool) → ((d : ℕ) → old d query ≡ nat_eq had d) → had ≢ due
    → ((d q : ℕ) → mid d q ≡ cond (nat_eq due d && nat_eq query q) true (old d q)) → ((d q : ℕ) → new d q ≡ cond (nat_eq had d && nat_eq query q) false (mid d q))
    → (d q : ℕ) → new d q ≡ cond (nat_eq query q) (nat_eq due d) (old d q)
moved due query had old mid new was ne put drop d q =
    drop d q
    ∙ (ap (λ (b : Bool). cond (nat_eq had d && nat_eq query q) false b) (put d q)
    ∙ one_for_one (nat_eq had d) (nat_eq due d) (nat_eq query q) (old d q) (λ its. ap (old d) (sym (eqb-true query q its)) ∙ was d) (apart due had d ne))
