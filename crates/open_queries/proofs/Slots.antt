-- The values in a slab's slots, as a list.
use Rattle.std.proofs.Common.{◌≡◌, ℕ, zero, suc, ◌+◌, inl, inr, Option, Some, None, List, [], ◌∷◌, length, refl, sym, ◌∙◌, ap, arith, map, slice_index_or}
use Rattle.std.specs.List.{Contains, filter_map}
use Rattle.std.proofs.lemmas.List.{length-map}
use Rattle.slab.specs.Slab.{Slab, slab_len, values, entries_from, entries}
use Rattle.slab.proofs.SlabLemmas.{Contains-cons, Contains-cons_cases, length-entries}

module _ {T : Type 0} where
  abbrev pub held : List (Option T) → List T
  held slots = filter_map (λ slot. slot) slots

  pub held-there : (slots : List (Option T)) (k : ℕ) (w : T) → slice_index_or slots k None ≡ Some w → Contains (held slots) w
  held-there [] k w e = cc
  held-there (None ∷ rest) zero w e = cc
  held-there (None ∷ rest) (suc k) w e = held-there rest k w e
  held-there (Some v ∷ rest) zero w e = let is : v ≡ w = cc in (0, omega arith, is)
  held-there (Some v ∷ rest) (suc k) w e = Contains-cons v w (held rest) (held-there rest k w e)

  pub held-slot : (slots : List (Option T)) (w : T) → Contains (held slots) w → (k : ℕ) × (slice_index_or slots k None ≡ Some w)
  held-slot [] w there = absurd (omega (arith, there.1))
  held-slot (None ∷ rest) w there = let it = held-slot rest w there in (suc it.0, it.1)
  held-slot (Some v ∷ rest) w there = elim (Contains-cons_cases v w (held rest) there) [ inl is ↦ (0, ap Some is) | inr later ↦ let it = held-slot rest w later in (suc it.0, it.1) ]

  pub held-entries : (key : ℕ) (slots : List (Option T)) → map (λ e. e.1) (entries_from key slots) ≡ held slots
  held-entries key [] = refl
  held-entries key (None ∷ rest) = held-entries (key + 1) rest
  held-entries key (Some v ∷ rest) = ap (λ (vs : List T). v ∷ vs) (held-entries (key + 1) rest)

  pub length-held : (s : Slab T) → length (values s) ≡ slab_len s
  length-held s = ap length (sym (held-entries 0 s.slots)) ∙ length-map (entries s) (λ (e : ℕ × T). e.1) ∙ length-entries s
