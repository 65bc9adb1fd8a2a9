-- The words have the reason.
use Rattle.std.proofs.Common.{string_bytes}
use Rattle.commands.specs.Checks.{TellsUnbound}
use Rattle.commands.proofs.Checks.{tell}
use Rattle.commands.proofs.check_config.bound.Goals as goal

pub returns-in-Ok-None-clause-err : goal.returns-in-Ok-None-clause-err
returns-in-Ok-None-clause-err g c = tell string_bytes c.unbound_words-words.result TellsUnbound _ _ _ c.unbound_words-words.ensures c.told.ensures
