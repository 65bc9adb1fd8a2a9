-- The text says what is left of it behind what was read.
use Rattle.std.proofs.Common.{◌≡◌, ◌+◌, ◌≤◌, ◌^◌, length}
use Rattle.std.specs.Str.{IsUtf8}
use Rattle.world_text.specs.Readings.{said_in}
use Rattle.world_text.specs.Seen.{says_from, IsLeftBehind}
use Rattle.world_text.proofs.world_text.read_world.Given as goal

abbrev pub invariant-loop-line : goal.invariant-loop-line
invariant-loop-line g l = record {
  text : IsUtf8 l.left;
  says : says_from l.number l.reader l.left ≡ said_in l.fn.text;
  left : IsLeftBehind l.left (l.reader).opening;
  number : l.number + length l.left ≤ 2 ^ 63;
}

abbrev pub decreases-loop-line : goal.decreases-loop-line
decreases-loop-line g l = length l.left
