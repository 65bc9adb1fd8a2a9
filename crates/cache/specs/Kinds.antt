-- The code's slots, seen as plain values.
use Rattle.rdata.specs.Types.{type_number}
use Rattle.cache.specs.declared.key.Slot.{Slot}
use Rattle.cache.specs.declared.key.Slot.TheVariants as kept
use Rattle.cache.specs.Keys as said

abbrev pub slot_view : Slot → said.Slot
slot_view (kept.Of t) = said.Kind (type_number t)
slot_view kept.NameError = said.NameError
