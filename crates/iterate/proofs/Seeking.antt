-- The innermost search is the first of the list.
use Rattle.std.proofs.Common.{◌≡◌, ℕ, Bool, Some, None, List, [], ◌∷◌, IsTrue, refl, sym, ◌∙◌, ap}
use Rattle.std.specs.Prelude.{◌↔◌, slice_get}
use Rattle.dname.specs.Labels.{Name}
use Rattle.resolution.specs.Jobs.{Search}
use Rattle.iterate.specs.Inputs.{IsSoughtBy}

pub sought_by : (xs : List Search) (s : Search) (n : Name) (t : ℕ) (b : Bool) → Some s ≡ slice_get xs 0 → (IsTrue b → (n ≡ s.name) × (t ≡ s.kind)) → ((n ≡ s.name) × (t ≡ s.kind) → IsTrue b)
    → IsTrue b ↔ IsSoughtBy xs n t
sought_by [] s n t b first there back = let none : Some s ≡ None = first in absurd (cc)
sought_by (x ∷ rest) s n t b first there back =
    let one : Some s ≡ Some x = first in
    let same : s ≡ x = cc in (
      λ yes u others e.
          let is : x ≡ u = cc in
          let both = there yes in (both.0 ∙ ap (λ (z : Search). z.name) (same ∙ is), both.1 ∙ ap (λ (z : Search). z.kind) (same ∙ is)),
      λ h.
          let both = h x rest refl in
          back (both.0 ∙ ap (λ (z : Search). z.name) (sym same), both.1 ∙ ap (λ (z : Search). z.kind) (sym same)),
    )
