-- The bytes so far are written.
use Rattle.std.proofs.Common.{◌∷◌, take}
use Rattle.std.specs.List.{flat_map}
use Rattle.std.specs.Fmt.{HasWritten, IsPlainFormatter}
use Rattle.rdata.specs.Text.{glyph}
use Rattle.rdata.proofs.text.write_quoted.Given as goal

abbrev pub invariant-loop-byte : goal.invariant-loop-byte
invariant-loop-byte g l =
    IsPlainFormatter l.fn.f → HasWritten g.W.Write.write_str_gives l.fn.f (34 ∷ flat_map glyph (take l.byte-index l.string)) l.f
