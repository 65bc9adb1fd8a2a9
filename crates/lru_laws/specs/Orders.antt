-- Lists of entries by their last use, the most recent one first, where equality of keys is exact.
use Rattle.std.specs.Prelude.{◌≡◌, ℕ, ◌-◌, Bool, true, ◌⊎◌, Option, Some, None, List, ◌∷◌, map, take, drop, Contains}
use Rattle.std.specs.Map.{lookup, remove_entry}

-- A test of keys that passes for equal keys alone, and for all of them.
pub record IsExact {K : Type 0} (same : K → K → Bool) : Type 0 where
  pub equal : (a b : K) → same a b ≡ true → a ≡ b
  pub refl : (a : K) → same a a ≡ true

module _ {K V : Type 0} (same : K → K → Bool) where
  abbrev pub kept_from : Option V → ℕ → K → V → List (K × V) → List (K × V)
  kept_from None cap k v es = (k, v) ∷ take (cap - 1) es
  kept_from (Some old) cap k v es = (k, v) ∷ remove_entry (same k) es

  -- The entry of k with the value v goes first. The entry that k had goes; where it had none, those go
  -- that stand past the capacity.
  abbrev pub kept : ℕ → K → V → List (K × V) → List (K × V)
  kept cap k v es = kept_from (lookup (same k) es) cap k v es

  abbrev pub used_from : Option V → K → List (K × V) → List (K × V)
  used_from None k es = es
  used_from (Some v) k es = (k, v) ∷ remove_entry (same k) es

  -- The entry of k goes first, if there is one.
  abbrev pub used : K → List (K × V) → List (K × V)
  used k es = used_from (lookup (same k) es) k es

-- Each member of the new list was in the old one, or has P.
abbrev pub KeepsOnly : {X : Type 0} → List X → (X → Type 0) → List X → Type 0
KeepsOnly {X} old P new = (x : X) → Contains new x → Contains old x ⊎ P x

-- Each member of the old list is in the new one, or has P.
abbrev pub LosesOnly : {X : Type 0} → List X → (X → Type 0) → List X → Type 0
LosesOnly {X} old P new = (x : X) → Contains old x → Contains new x ⊎ P x

-- The same members.
abbrev pub HasSame : {X : Type 0} → List X → List X → Type 0
HasSame {X} old new = ((x : X) → Contains new x → Contains old x) × ((x : X) → Contains old x → Contains new x)

module _ {K V : Type 0} (same : K → K → Bool) where
  -- What goes where k is kept with a new value: its own entry, and where it had none what stood past the capacity.
  abbrev pub MayGo : ℕ → K → List (K × V) → K × V → Type 0
  MayGo cap k es e = (e.0 ≡ k) ⊎ ((lookup (same k) es ≡ None) × Contains (drop (cap - 1) es) e)

module _ {K V : Type 0} (same : K → K → Bool) where
  -- The entry of k with the value v stands among the first n.
  abbrev pub IsWithin : ℕ → K → V → List (K × V) → Type 0
  IsWithin n k v es = lookup (same k) (take n es) ≡ Some v

module _ {K L V : Type 0} (f : K → L) where
  -- The same entries, each under what f makes of its key.
  abbrev pub rekeyed : List (K × V) → List (L × V)
  rekeyed es = map (λ e. (f e.0, e.1)) es

module _ {K V W : Type 0} (f : K → V → W) where
  -- The same entries, each with what f makes of its key and its value.
  abbrev pub mapped : List (K × V) → List (K × W)
  mapped es = map (λ e. (e.0, f e.0 e.1)) es
