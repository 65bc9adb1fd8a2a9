-- Numbers at a place of a message, the high byte first.
use Rattle.std.specs.Prelude.{ℕ, ◌+◌, ◌*◌, List, slice_index}

abbrev pub two_at : List ℕ → ℕ → ℕ
two_at bytes at = slice_index bytes at * 256 + slice_index bytes (at + 1)

abbrev pub four_at : List ℕ → ℕ → ℕ
four_at bytes at =
    slice_index bytes at * 16777216 + slice_index bytes (at + 1) * 65536 + slice_index bytes (at + 2) * 256 + slice_index bytes (at + 3)
