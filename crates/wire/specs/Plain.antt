-- A name that stands in full at a place of a message, without a pointer.
use Rattle.std.specs.Prelude.{◌≡◌, ℕ, ◌<◌, ◌≤◌, Ok, List, length, slice_range}
use Rattle.dname.specs.Wire.{labels_of, IsSpellingWire}
use Rattle.wire.specs.Parts.{message_faults, spelt_at}

-- The bytes up to this end spell the name at the place, which ends there.
pub record IsPlain (bytes : List ℕ) (at end : ℕ) : Type 0 where
  pub begins : at < end
  pub ends : end ≤ length bytes
  pub spells : IsSpellingWire (slice_range bytes at end)
  pub is : spelt_at bytes message_faults (length bytes) at ≡ Ok (labels_of (slice_range bytes at end), end)
