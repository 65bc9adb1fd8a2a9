use Rattle.engine.proofs.Histories.{typed_history_is_run}
use Rattle.engine.proofs.booked.typed_history_is_run.Goals as goal

pub returns : goal.returns
returns g c = typed_history_is_run _
