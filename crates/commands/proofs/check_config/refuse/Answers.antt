-- The words come first, and then the line of the fault.
use Rattle.commands.proofs.Checks.{both_written, not_written}
use Rattle.commands.proofs.check_config.refuse.Goals as goal

pub returns-then-status-eq0-clause-told : goal.returns-then-status-eq0-clause-told
returns-then-status-eq0-clause-told g c = both_written _ _ _ _ _ _ _ _ _ c.put-status.ensures c.if-status-eq0.true c.report.ensures

pub returns-else-status-eq0-clause-told : goal.returns-else-status-eq0-clause-told
returns-else-status-eq0-clause-told g c = not_written _ _ _ _ _ _ _ c.put-status.ensures c.if-status-eq0.false
