use Rattle.std.proofs.Common.{inr}
use Rattle.book.proofs.Steps.{given, restood, on_err}
use Rattle.book.proofs.book.Book.step_kept.Goals as goal

pub returns-clause-ok : goal.returns-clause-ok
returns-clause-ok g c =
    given g.M.Machine.moves g.M.Machine.begins _ _ _ _ c.args.event.now c.in_ok-copy.copy c.in_ok-entry.entry c.into_out.result
    c.into_out.ensures c.in_ok-copy.ensures c.last_law.ensures c.in_ok-entry.ensures.ok

pub returns-clause-err : goal.returns-clause-err
returns-clause-err g c =
    on_err c.into_out.result (inr (restood g.M.Machine.moves g.M.Machine.begins _ _ _ _ c.args.event.now c.in_ok-copy.copy c.in_ok-entry.entry
    c.in_ok-copy.ensures c.in_ok-entry.ensures.ok))
