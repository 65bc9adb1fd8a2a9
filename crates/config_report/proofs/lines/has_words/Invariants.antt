use Rattle.std.proofs.Common.{◌≡◌, length, nat_eq}
use Rattle.text_lines.specs.Texts.{stated_words}
use Rattle.config_report.proofs.lines.has_words.Given as goal

abbrev pub invariant-loop : goal.invariant-loop
invariant-loop l = nat_eq (length l.iterator') l.left ≡ nat_eq (length (stated_words l.fn.line)) l.fn.count
