use Rattle.std.proofs.Common.{◌≡◌}
use Rattle.text_lines.specs.Texts.{said_from}
use Rattle.config.specs.Configs.{said, whole, config_of}
use Rattle.config.proofs.config.read_config.Given as goal

abbrev pub invariant-loop-line : goal.invariant-loop-line
invariant-loop-line g l = said_from said whole l.number l.draft l.line-iterator ≡ config_of l.fn.text
