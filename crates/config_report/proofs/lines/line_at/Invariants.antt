use Rattle.std.proofs.Common.{◌≡◌}
use Rattle.text_lines.specs.Lines.{lines}
use Rattle.config_report.specs.Reports.{line_at}
use Rattle.config_report.proofs.lines.line_at.Given as goal

abbrev pub invariant-loop-line : goal.invariant-loop-line
invariant-loop-line l = line_at l.left l.line-iterator ≡ line_at l.fn.number (lines l.fn.text)
