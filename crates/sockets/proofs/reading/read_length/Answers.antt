use Rattle.std.proofs.Common.{◌≤◌, length, ◌∙◌, subst, take_all, arith}
use Rattle.std.specs.Io.KnownBytes.{Consumes}
use Rattle.sockets.proofs.reading.read_length.Goals as goal

pub returns-in_default : goal.returns-in_default
returns-in_default g c =
    let whole : length c.fill.new.buf ≤ c.in_ok-fill.field-0 = omega (arith, c.in_default) in
    subst (Consumes _ _) (take_all c.in_ok-fill.field-0 c.fill.new.buf whole ∙ c.length_in.ensures) c.in_ok-fill.ensures.bytes
