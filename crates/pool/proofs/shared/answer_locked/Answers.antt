use Rattle.pool.proofs.Entered.{entered}
use Rattle.pool.proofs.shared.answer_locked.Goals as goal

pub returns-then-owns-clause-ok : goal.returns-then-owns-clause-ok
returns-then-owns-clause-ok g c = entered g.M.Machine.moves g.M.Machine.begins c.args.book.now c.answer.new.self c.args.ticket.now c.answer.new.ticket c.args.event.now c.answer.result c.answer.ensures.ok
