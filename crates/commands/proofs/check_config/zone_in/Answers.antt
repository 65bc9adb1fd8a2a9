-- A text that is no master file.
use Rattle.commands.proofs.Checks.{file_refused}
use Rattle.commands.proofs.check_config.zone_in.Goals as goal

pub returns-in-Err-clause-err : goal.returns-in-Err-clause-err
returns-in-Err-clause-err g c = file_refused c.args.path c.args.origin.now c.args.text.now c.in-Err.error c.in-Err.ensures.reads _ _ c.bad_file.ensures
