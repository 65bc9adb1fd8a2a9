-- Nothing stood before the lines.
use Rattle.std.proofs.Common.{◌∙◌, ap, ℕ, List, ◌++◌}
use Rattle.commands.specs.Storms.{storm_lines}
use Rattle.commands.proofs.storm_scripts.storm_text.Goals as goal

pub returns : goal.returns
returns c = c.in_ok-write.ensures.bytes ∙ ap (λ (before : List ℕ). before ++ storm_lines c.args.totals) c.new-text.ensures.bytes
