use Rattle.std.proofs.Common.{◌∙◌, sym, ap}
use Rattle.rdata.specs.Shared.{values_of}
use Rattle.rdata.proofs.Exact.{same_slices}
use Rattle.rdata.proofs.equality.same_values.Goals as goal

pub returns-in-Shared-Shared : goal.returns-in-Shared-Shared
returns-in-Shared-Shared g c =
    let decides = same_slices c.as_slice.result.now c.as_slice-in-Shared-Shared.result.now c.eq-in-Shared-Shared.result c.eq-in-Shared-Shared.ensures in
    let one = sym c.place.ensures ∙ ap values_of c.in-Shared-Shared.is-0 in
    let other = sym c.place-2.ensures ∙ ap values_of c.in-Shared-Shared.is-1 in (
      λ t. one ∙ (sym c.as_slice.ensures.is ∙ (decides.0 t ∙ (c.as_slice-in-Shared-Shared.ensures.is ∙ sym other))),
      λ e. decides.1 (c.as_slice.ensures.is ∙ (sym one ∙ (e ∙ (other ∙ sym c.as_slice-in-Shared-Shared.ensures.is)))),
    )
