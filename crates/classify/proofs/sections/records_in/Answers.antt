use Rattle.rdata.specs.Selected.{is_at, records_at}
use Rattle.rdata.specs.Types.{type_number}
use Rattle.classify.proofs.Walking.{chosen_on}
use Rattle.classify.proofs.sections.records_in.Goals as goal

pub loop-found-preserved : goal.loop-found-preserved
loop-found-preserved g c =
    chosen_on (is_at c.args.owner.now (type_number c.args.kind)) (records_at c.args.owner.now (type_number c.args.kind) c.args.section) c.loop-found.records c.put_at.new.records c.loop-found.section c.next.new.self c.in-Some.found
    c.loop-found.invariant c.in-Some.ensures c.in_ok-put_at.ensures
