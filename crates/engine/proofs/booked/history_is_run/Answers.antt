use Rattle.engine.proofs.Histories.{history_is_run}
use Rattle.engine.proofs.booked.history_is_run.Goals as goal

pub returns : goal.returns
returns g c = history_is_run _
