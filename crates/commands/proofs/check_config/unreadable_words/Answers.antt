-- The words have the system's reason.
use Rattle.std.proofs.Common.{string_bytes}
use Rattle.commands.proofs.Checks.{reason_told}
use Rattle.commands.proofs.check_config.unreadable_words.Goals as goal

pub returns-clause-ok : goal.returns-clause-ok
returns-clause-ok g c = reason_told string_bytes c.reasoned.result c.args.path.now _ c.reasoned.ensures
