use Rattle.std.proofs.Common.{rules}
use Rattle.workers.proofs.working.enter.Goals as goal

pub returns-clause-entered : goal.returns-clause-entered
returns-clause-entered g c = record { entry = c.in_ok-entry.entry; event_is = c.in_ok-entry.ensures.ok.event_is; entries = search rules; waits = search rules }
