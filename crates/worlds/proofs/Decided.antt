-- Tests and what they test: true exactly where a fact holds, or false exactly where it does.
use Rattle.std.proofs.Common.{◌≡◌, ◌≤◌, ◌<◌, ℕ, ◌⊎◌, ⊎_elim, inl, inr, Bool, true, false, ◌&&◌, ◌||◌, not, nat_lt, List, refl, sym, ◌∙◌, ap, arith}
use Rattle.std.specs.Prelude.{Contains}
use Rattle.std.specs.List.{list_any}
use Rattle.std.proofs.lemmas.Bool.{both_ways, ltb-true, ltb-false}
use Rattle.dname.specs.Labels.{Name, same_name, is_under, IsAtOrUnder}
use Rattle.dname.specs.Laws.{same_name-exact, same_name-equal}
use Rattle.dname.proofs.Under.{under_is, is_under_holds}
use Rattle.zone.proofs.LawLists.{any_from, any_of}

pub record Yes (b : Bool) (P : Type 0) : Type 0 where
  pub so : b ≡ true → P
  pub test : P → b ≡ true

pub record No (b : Bool) (P : Type 0) : Type 0 where
  pub so : b ≡ false → P
  pub test : P → b ≡ false

-- Each is the other's negative answer.
no_of : (b : Bool) → (b ≡ true → ⊥) → b ≡ false
no_of true h = absurd (h refl)
no_of false h = refl

yes_of : (b : Bool) → (b ≡ false → ⊥) → b ≡ true
yes_of true h = refl
yes_of false h = absurd (h refl)

not_true : (b : Bool) → not b ≡ true → b ≡ false
not_true true h = sym h
not_true false h = refl

not_false : (b : Bool) → not b ≡ false → b ≡ true
not_false true h = refl
not_false false h = sym h

pub fails : {b : Bool} {P : Type 0} → Yes b P → b ≡ false → P → ⊥
fails {b} d h p = both_ways b h (d.test p)

pub breaks : {b : Bool} {P : Type 0} → No b P → b ≡ true → P → ⊥
breaks {b} d h p = both_ways b (d.test p) h

pub no_not : {b : Bool} {P : Type 0} → Yes b P → No (not b) P
no_not {b} d = record { so = λ h. d.so (not_false b h); test = λ p. ap not (d.test p) }

pub yes_not : {b : Bool} {P : Type 0} → No b P → Yes (not b) P
yes_not {b} d = record { so = λ h. d.so (not_true b h); test = λ p. ap not (d.test p) }

-- The negative answer of a fact that is tested.
pub yes_un : {b : Bool} {P : Type 0} → Yes b P → Yes (not b) (P → ⊥)
yes_un {b} d = record { so = λ h p. fails d (not_true b h) p; test = λ p. ap not (no_of b (λ h. p (d.so h))) }

pub no_un : {b : Bool} {P : Type 0} → Yes b P → No b (P → ⊥)
no_un {b} d = record { so = λ h p. fails d h p; test = λ p. no_of b (λ h. p (d.so h)) }

and_true : (a b : Bool) → (a && b) ≡ true → (a ≡ true) × (b ≡ true)
and_true true b h = (refl, h)
and_true false b h = absurd (cc)

pub yes_and : {a b : Bool} {P Q : Type 0} → Yes a P → Yes b Q → Yes (a && b) (P × Q)
yes_and {a} {b} d e = record {
  so = λ h. let m = and_true a b h in (d.so m.0, e.so m.1);
  test = λ p. ap (λ (x : Bool). x && b) (d.test p.0) ∙ e.test p.1;
}

and_on : (a b : Bool) → a ≡ true → (a && b) ≡ false → b ≡ false
and_on true b e h = h
and_on false b e h = absurd (cc)

and_off : (a b : Bool) → (a ≡ true → b ≡ false) → (a && b) ≡ false
and_off true b h = h refl
and_off false b h = refl

-- An implication.
pub no_and : {a b : Bool} {P Q : Type 0} → Yes a P → No b Q → No (a && b) (P → Q)
no_and {a} {b} d e = record {
  so = λ h p. e.so (and_on a b (d.test p) h);
  test = λ f. and_off a b (λ h. e.test (f (d.so h)));
}

or_true : (a b : Bool) → (a || b) ≡ true → (a ≡ true) ⊎ (b ≡ true)
or_true true b h = inl refl
or_true false b h = inr h

or_first : (a b : Bool) → a ≡ true → (a || b) ≡ true
or_first true b h = refl
or_first false b h = absurd (cc)

or_second : (a b : Bool) → b ≡ true → (a || b) ≡ true
or_second true b h = refl
or_second false b h = h

pub yes_or : {a b : Bool} {P Q : Type 0} → Yes a P → Yes b Q → Yes (a || b) (P ⊎ Q)
yes_or {a} {b} {P} {Q} d e = record {
  so = λ h. ⊎_elim (λ x. inl (d.so x)) (λ y. inr (e.so y)) (or_true a b h);
  test = λ p. ⊎_elim (λ (x : P). or_first a b (d.test x)) (λ (y : Q). or_second a b (e.test y)) p;
}

or_none : (a b : Bool) → (a || b) ≡ false → (a ≡ false) × (b ≡ false)
or_none true b h = absurd (cc)
or_none false b h = (refl, h)

or_neither : (a b : Bool) → a ≡ false → b ≡ false → (a || b) ≡ false
or_neither true b h k = h
or_neither false b h k = k

pub no_or : {a b : Bool} {P Q : Type 0} → No a P → No b Q → No (a || b) (P × Q)
no_or {a} {b} d e = record {
  so = λ h. let m = or_none a b h in (d.so m.0, e.so m.1);
  test = λ p. or_neither a b (d.test p.0) (e.test p.1);
}

-- Some member; each member.
pub yes_any : {X : Type 0} {t : X → Bool} {P : X → Type 0} → ((x : X) → Yes (t x) (P x)) → (xs : List X) → Yes (list_any t xs) ((x : X) × Contains xs x × P x)
yes_any {X} {t} d xs = record {
  so = λ h. let m = any_of t xs h in (m.0, m.1, (d m.0).so m.2);
  test = λ p. any_from t xs p.0 p.1 ((d p.0).test p.2);
}

pub no_any : {X : Type 0} {t : X → Bool} {P : X → Type 0} → ((x : X) → No (t x) (P x)) → (xs : List X) → No (list_any t xs) ((x : X) → Contains xs x → P x)
no_any {X} {t} d xs = record {
  so = λ h x m. (d x).so (no_of (t x) (λ e. both_ways (list_any t xs) h (any_from t xs x m e)));
  test = λ p. no_of (list_any t xs) (λ h. let m = any_of t xs h in both_ways (t m.0) ((d m.0).test (p m.0 m.1)) m.2);
}

-- The same of another fact.
pub no_as : {b : Bool} {P Q : Type 0} → (P → Q) → (Q → P) → No b P → No b Q
no_as f g d = record { so = λ h. f (d.so h); test = λ q. d.test (g q) }

pub yes_as : {b : Bool} {P Q : Type 0} → (P → Q) → (Q → P) → Yes b P → Yes b Q
yes_as f g d = record { so = λ h. f (d.so h); test = λ q. d.test (g q) }

-- Names and numbers.
pub yes_same : (a b : Name) → Yes (same_name a b) (a ≡ b)
yes_same a b = record { so = same_name-exact a b; test = same_name-equal a b }

pub yes_under : (a b : Name) → Yes (is_under a b) (IsAtOrUnder a b)
yes_under a b = record { so = under_is a b; test = is_under_holds a b }

pub no_less : (m n : ℕ) → No (nat_lt m n) (n ≤ m)
no_less m n = record {
  so = λ h. ltb-false m n h;
  test = λ h. no_of (nat_lt m n) (λ e. let k : m < n = ltb-true m n e in omega arith);
}
