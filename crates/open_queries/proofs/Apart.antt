-- Slots of open queries of which no two have one number: what a removal and an insertion make of them.
use Rattle.std.proofs.Common.{◌≡◌, ◌≢◌, ℕ, zero, suc, ◌+◌, ◌⊎◌, inl, inr, Option, Some, None, List, [], ◌∷◌, length, refl, sym, ◌∙◌, ap, subst, arith, slice_index_or, is_some, Bor}
use Rattle.std.specs.List.{Contains}
use Rattle.std.proofs.lemmas.Bool.{cases_eq}
use Rattle.slab.specs.Slab.{Slab, get, ContainsKey, slab_len, values, Updates}
use Rattle.runs.specs.States.{Open, AreApart}
use Rattle.runs.specs.Steps.{AreOthers, AreWith}
use Rattle.open_queries.specs.Lookups.{HasNo, IsTheOne, IsTaken, IsApart}
use Rattle.open_queries.proofs.Slots.{held, held-there, held-slot, length-held}
use Rattle.open_queries.specs.Indexes.{LeadsTo}
use Rattle.std.specs.Option.{MatchOption, option_copied}

abbrev AreApartIn : List (Option Open) → Type 0
AreApartIn slots = (i j : ℕ) (v w : Open) → slice_index_or slots i None ≡ Some v → slice_index_or slots j None ≡ Some w → v.number ≡ w.number → i ≡ j

later : (o : Option Open) (rest : List (Option Open)) → AreApartIn (o ∷ rest) → AreApartIn rest
later o rest h = λ i j v w at_i at_j same. let e : suc i ≡ suc j = h (suc i) (suc j) v w at_i at_j same in omega arith

held-apart : (slots : List (Option Open)) → AreApartIn slots → AreApart (held slots)
held-apart [] h = tt
held-apart (None ∷ rest) h = held-apart rest (later None rest h)
held-apart (Some q ∷ rest) h = (
  λ p there same.
      let it = held-slot rest p there in
      let e : suc it.0 ≡ zero = h (suc it.0) zero p q it.1 refl same in
      absurd (omega arith),
  held-apart rest (later (Some q) rest h),
)

pub values-apart : (s : Slab Open) → IsApart s → AreApart (values s)
values-apart s h = held-apart s.slots h

-- ---- one by its slot

pub the_one : (s : Slab Open) (key : ℕ) (w : Open) → IsApart s → get s key ≡ Some w → IsTheOne (values s) w.number w
the_one s key w apart there = record {
  stands = held-there s.slots key w there;
  number_is = refl;
  alone = λ p in_it same.
      let it = held-slot s.slots p in_it in
      let e : it.0 ≡ key = apart it.0 key p w it.1 there same in
      let at_key : get s key ≡ Some p = sym (ap (get s) e) ∙ it.1 in
      cc;
}

-- ---- a removal

module _ (old new : Slab Open) (key : ℕ) (w : Open) (apart : IsApart old) (there : get old key ≡ Some w) (updates : Updates old new key None) where
  -- What stands in a slot now stood there before, in another slot than the one that is cleared.
  stood : (j : ℕ) (q : Open) → get new j ≡ Some q → (j ≢ key) × (get old j ≡ Some q)
  stood j q at =
      let changed = updates.changed in
      let differs : j ≢ key = λ e. let at_key : get new key ≡ Some q = sym (ap (get new) e) ∙ at in let clash : None ≡ Some q = sym changed ∙ at_key in cc in
      (differs, sym (updates.others j differs) ∙ at)

  stays : (q : Open) → Contains (values old) q → q.number ≢ w.number → Contains (values new) q
  stays q in_old other =
      let it = held-slot old.slots q in_old in
      let differs : it.0 ≢ key = λ e. let at_key : get old key ≡ Some q = sym (ap (get old) e) ∙ it.1 in let same : q ≡ w = cc in other (ap (λ (o : Open). o.number) same) in
      held-there new.slots it.0 q (updates.others it.0 differs ∙ it.1)

  was_there : (q : Open) → Contains (values new) q → Contains (values old) q × (q.number ≢ w.number)
  was_there q in_new =
      let it = held-slot new.slots q in_new in
      let before = stood it.0 q it.1 in
      (held-there old.slots it.0 q before.1, λ same. before.0 (apart it.0 key q w before.1 there same))

  pub remaining : AreOthers w.number (values old) (values new)
  remaining = record { stay = stays; only = was_there }

  pub taken : slab_len new + 1 ≡ slab_len old → IsTaken (values old) w.number w (values new)
  taken len = record {
    one = the_one old key w apart there;
    others = remaining;
    fewer = length-held old ∙ sym len ∙ ap (λ (n : ℕ). n + 1) (sym (length-held new));
  }

  pub taken-apart : IsApart new
  taken-apart = λ i j v u at_i at_j same. apart i j v u (stood i v at_i).1 (stood j u at_j).1 same

-- ---- an insertion

module _ (old new : Slab Open) (key : ℕ) (added : Open) (apart : IsApart old) (vacant : get old key ≡ None) (updates : Updates old new key (Some added)) (fresh : HasNo (values old) added.number) where
  stays_in : (q : Open) → Contains (values old) q → q.number ≢ added.number → Contains (values new) q
  stays_in q in_old other =
      let it = held-slot old.slots q in_old in
      let differs : it.0 ≢ key = λ e. let at_key : get old key ≡ Some q = sym (ap (get old) e) ∙ it.1 in let clash : None ≡ Some q = sym vacant ∙ at_key in cc in
      held-there new.slots it.0 q (updates.others it.0 differs ∙ it.1)

  -- What stands in a slot now is what was put in, or stood there before.
  is_either : (j : ℕ) (q : Open) → get new j ≡ Some q → ((j ≡ key) × (q ≡ added)) ⊎ ((j ≢ key) × (get old j ≡ Some q))
  is_either j q at =
      elim (cases_eq j key) [
        | inl same ↦ let changed = updates.changed in let at_key : get new key ≡ Some q = sym (ap (get new) same) ∙ at in let is : q ≡ added = cc in inl (same, is)
        | inr differs ↦ inr (differs, sym (updates.others j differs) ∙ at)
      ]

  only_it : (q : Open) → Contains (values new) q → (q ≡ added) ⊎ (Contains (values old) q × (q.number ≢ added.number))
  only_it q in_new =
      let it = held-slot new.slots q in_new in
      elim (is_either it.0 q it.1) [
        | inl is ↦ inl is.1
        | inr before ↦ let in_old = held-there old.slots it.0 q before.1 in inr (in_old, fresh q in_old)
      ]

  pub put_in : AreWith added (values old) (values new)
  put_in = record { is = held-there new.slots key added updates.changed; stay = stays_in; only = only_it }

  not_both : (j : ℕ) (q : Open) → get old j ≡ Some q → q.number ≢ added.number
  not_both j q at = fresh q (held-there old.slots j q at)

  pub put-apart : IsApart new
  put-apart = λ i j v u at_i at_j same.
      elim (is_either i v at_i) [
        | inl a ↦ elim (is_either j u at_j) [
          | inl b ↦ a.0 ∙ sym b.0
          | inr b ↦ absurd (not_both j u b.1 (sym same ∙ ap (λ (o : Open). o.number) a.1))
        ]
        | inr a ↦ elim (is_either j u at_j) [
          | inl b ↦ absurd (not_both i v a.1 (same ∙ ap (λ (o : Open). o.number) b.1))
          | inr b ↦ apart i j v u a.1 b.1 same
        ]
      ]

-- ---- by a number

pub one_of : (s : Slab Open) (number key : ℕ) → IsApart s → LeadsTo s number (Some key) → MatchOption (get s key) (HasNo (values s) number) (IsTheOne (values s) number)
one_of s number key apart h =
    let one = the_one s key h.0 apart h.1 in
    subst (λ (o : Option Open). MatchOption o (HasNo (values s) number) (IsTheOne (values s) number)) (sym h.1)
    (subst (λ (n : ℕ). IsTheOne (values s) n h.0) h.2 one)

-- What a removal by a number takes out.
abbrev pub Removes : List Open → ℕ → Option Open → List Open → Type 0
Removes old number r new = MatchOption r (HasNo old number × (new ≡ old)) (λ q. IsTaken old number q new)

-- What the key of a number leads to has the number.
pub numbered : (s : Slab Open) (number key : ℕ) (w : Open) → LeadsTo s number (Some key) → get s key ≡ Some w → w.number ≡ number
numbered s number key w led there =
    let at_key : get s key ≡ Some led.0 = led.1 in
    let is : led.0 ≡ w = cc in
    sym (ap (λ (x : Open). x.number) is) ∙ led.2

pub keyed_there : (s : Slab Open) (number key : ℕ) → LeadsTo s number (Some key) → ContainsKey s key
keyed_there s number key led = ap (λ (o : Option Open). is_some o) led.1

pub taken_out : (old new : Slab Open) (number key : ℕ) (w : Open) → IsApart old → LeadsTo old number (Some key) → get old key ≡ Some w → Updates old new key None → slab_len new + 1 ≡ slab_len old → IsTaken (values old) number w (values new)
taken_out old new number key w apart led there updates len =
    subst (λ (n : ℕ). IsTaken (values old) n w (values new)) (numbered old number key w led there) (taken old new key w apart there updates len)

-- One more slot is filled.
pub one_more : (old new : Slab Open) → slab_len new ≡ slab_len old + 1 → length (values new) ≡ length (values old) + 1
one_more old new e = length-held new ∙ e ∙ ap (λ (n : ℕ). n + 1) (sym (length-held old))

pub copied_match : {T : Type 0} (r : Option (Bor T)) (o : Option T) (P : Type 0) (Q : T → Type 0) → option_copied r ≡ o → MatchOption o P Q → MatchOption r P (λ q. Q q.now)
copied_match {T} r o P Q e h =
    let there : MatchOption (option_copied r) P Q = subst (λ (x : Option T). MatchOption x P Q) (sym e) h in
    elim r as (λ x. MatchOption (option_copied x) P Q → MatchOption x P (λ q. Q q.now)) [ None ↦ λ p. p | Some q ↦ λ p. p ] there
