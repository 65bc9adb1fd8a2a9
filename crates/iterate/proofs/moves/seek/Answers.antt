use Rattle.lookup.proofs.Uses.{found_part}
use Rattle.iterate.proofs.Accepted.{on_err}
use Rattle.iterate.proofs.Parts.{part_at, seek_part}
use Rattle.iterate.proofs.Sought.{found_at}
use Rattle.iterate.proofs.moves.seek.Goals as goal

pub returns-clause-is : goal.returns-clause-is
returns-clause-is g c =
    c.in_ok-due_after.ensures c.args.home.now c.args.now c.args.stores.now
    (found_at c.args.home.now c.args.now _ c.args.job.now.name _ c.args.job.now.kind c.args.stores.now c.in_ok-found.found c.find.new.stores c.name.ensures c.kind.ensures c.in_ok-found.ensures.found)

pub returns-in_err-due_after-clause-part : goal.returns-in_err-due_after-clause-part
returns-in_err-due_after-clause-part g c =
    on_err c.from_residual-in_err-due_after.result (seek_part c.args.home.now c.args.now c.args.job.now c.args.stores.now c.find.new.stores
    (found_part c.args.home.now c.args.now c.args.job.now.name c.args.job.now.kind c.args.stores.now c.in_ok-found.found c.find.new.stores
    (found_at c.args.home.now c.args.now _ c.args.job.now.name _ c.args.job.now.kind c.args.stores.now c.in_ok-found.found c.find.new.stores c.name.ensures c.kind.ensures c.in_ok-found.ensures.found)))

pub returns-in_err-found-clause-part : goal.returns-in_err-found-clause-part
returns-in_err-found-clause-part g c =
    on_err c.from_residual.result (seek_part c.args.home.now c.args.now c.args.job.now c.args.stores.now c.find.new.stores
    (part_at c.args.home.now c.args.now _ c.args.job.now.name _ c.args.job.now.kind c.args.stores.now c.find.new.stores c.name.ensures c.kind.ensures c.in_err-found.ensures.part))
