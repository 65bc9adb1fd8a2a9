use Rattle.std.proofs.Common.{◌≡◌, length}
use Rattle.masterfile.specs.Strings.{unescaped}
use Rattle.masterfile.proofs.Fronts.{with_bytes}
use Rattle.masterfile.proofs.strings.string.Given as goal

abbrev pub invariant-bytes : goal.invariant-bytes
invariant-bytes g l = with_bytes l.bytes.items (unescaped l.rest) ≡ unescaped l.fn.word

abbrev pub decreases-bytes : goal.decreases-bytes
decreases-bytes g l = length l.rest
