-- The meaning of a part of a name that was read.
use Rattle.std.specs.Prelude.{ℕ, ◌+◌, ◌<◌}
use Rattle.wire.specs.declared.parts.Part.{Part}
use Rattle.wire.specs.declared.parts.Part.TheVariants.{End, Label, Pointer}

abbrev pub IsPart : ℕ → ℕ → Part → Type 0
IsPart limit at End = at < limit
IsPart limit at (Label size) = (at < limit) × (0 < size) × (size < 64)
IsPart limit at (Pointer target) = (at + 1 < limit) × (target < 16384)
