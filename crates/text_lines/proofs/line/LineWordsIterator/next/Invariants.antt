use Rattle.std.proofs.Common.{length, ◌≡◌}
use Rattle.std.specs.Str.{IsUtf8}
use Rattle.text_lines.specs.Lines.{words}
use Rattle.text_lines.proofs.line.LineWordsIterator.next.Given as goal

abbrev pub invariant-loop-rest : goal.invariant-loop-rest
invariant-loop-rest l = record {
  text : IsUtf8 l.rest;
  same : words l.rest ≡ words l.initial.rest;
}

abbrev pub decreases-loop-rest : goal.decreases-loop-rest
decreases-loop-rest l = length l.rest
