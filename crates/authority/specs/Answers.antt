-- Answers of a look-up, seen as the plain values of the zones' definitions.
use Rattle.zone.specs.Look as looked
use Rattle.zone.specs.Views.{link_view}
use Rattle.authority.specs.declared.answer.Local.{Local}
use Rattle.authority.specs.declared.answer.Local.TheVariants as local

abbrev pub local_view : {H : Type 0} → Local H → looked.Local
local_view (local.Link l) = looked.Linked (link_view l)
local_view (local.Cut c ns glue) = looked.Cut c ns glue
local_view local.NotHere = looked.NotHere
