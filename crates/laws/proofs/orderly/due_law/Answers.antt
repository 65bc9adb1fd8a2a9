use Rattle.laws.proofs.Discipline.{more_at_ticks}
use Rattle.laws.proofs.Due.{due_in_order}
use Rattle.laws.proofs.Times.{nothing_is_late}
use Rattle.laws.proofs.orderly.due_law.Goals as goal

pub returns : goal.returns
returns c = record { order = due_in_order; late = nothing_is_late; ticks = more_at_ticks }
