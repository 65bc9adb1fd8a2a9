-- Links as they are stored, seen as plain values.
use Rattle.std.specs.Prelude.{[], ◌∷◌}
use Rattle.rdata.specs.Kept.{datum}
use Rattle.zone.specs.Views.{link_view}
use Rattle.cache.specs.Packed as packed
use Rattle.cache.specs.declared.packed.Form.{Form}
use Rattle.cache.specs.declared.packed.Form.TheVariants as form

abbrev pub form_view : {H : Type 0} → Form H → packed.Form
form_view (form.One v) = packed.Set (datum v ∷ [])
form_view (form.Many ds) = packed.Set ds
form_view (form.Alias v) = packed.Alias (datum v)
form_view (form.NoData d) = packed.NoData d
form_view (form.NxDomain d) = packed.NxDomain d
form_view (form.Whole l) = packed.Whole (link_view l.value)
