-- The words have the reason.
use Rattle.std.proofs.Common.{string_bytes}
use Rattle.commands.specs.Checks.{HasReason}
use Rattle.commands.proofs.Checks.{tell}
use Rattle.commands.proofs.check_config.unreadable.Goals as goal

pub returns-clause-tells : goal.returns-clause-tells
returns-clause-tells g c = tell string_bytes c.unreadable_words-words.result (HasReason c.args.path.now) _ _ _ c.unreadable_words-words.ensures.ok c.told.ensures
