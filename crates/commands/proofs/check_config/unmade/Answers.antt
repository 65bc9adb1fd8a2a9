-- The words go with the fault.
use Rattle.std.proofs.Common.{string_bytes}
use Rattle.commands.specs.Checks.{TellsUnmade}
use Rattle.commands.proofs.Checks.{tell}
use Rattle.commands.proofs.check_config.unmade.Goals as goal

pub returns : goal.returns
returns g c = tell string_bytes c.unmade_words-words.result (TellsUnmade c.args.fault) _ _ _ c.unmade_words-words.ensures c.told.ensures
