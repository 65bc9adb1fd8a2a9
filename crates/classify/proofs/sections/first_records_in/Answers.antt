use Rattle.std.proofs.Common.{◌<◌, arith}
use Rattle.rdata.specs.Selected.{is_at, records_at}
use Rattle.rdata.specs.Types.{type_number}
use Rattle.classify.proofs.Walking.{chosen_on, few_on, first_full, first_all}
use Rattle.classify.proofs.sections.first_records_in.Goals as goal

pub loop-found-preserved : goal.loop-found-preserved
loop-found-preserved g c =
    let chosen = is_at c.args.owner.now (type_number c.args.kind) in
    let room : c.len.result < c.args.most = omega (arith, c.if-len-most.false) in (
      chosen_on chosen (records_at c.args.owner.now (type_number c.args.kind) c.args.section) c.loop-found.records c.put_at.new.records c.loop-found.section c.next.new.self c.in-Some.found
          c.loop-found.invariant.0 c.in-Some.ensures c.in_ok-put_at.ensures,
      few_on chosen c.loop-found.records c.put_at.new.records c.in-Some.found c.args.most c.len.result c.len.ensures room c.in_ok-put_at.ensures,
    )

pub returns-then-len-most : goal.returns-then-len-most
returns-then-len-most g c =
    first_full (is_at c.args.owner.now (type_number c.args.kind)) (records_at c.args.owner.now (type_number c.args.kind) c.args.section) c.loop-found.records c.loop-found.section c.args.most
    c.len.result c.loop-found.invariant.0 c.loop-found.invariant.1 c.len.ensures c.if-len-most.true

pub returns : goal.returns
returns g c =
    first_all (is_at c.args.owner.now (type_number c.args.kind)) (records_at c.args.owner.now (type_number c.args.kind) c.args.section) c.loop-found.records c.loop-found.section c.args.most
    c.loop-found.invariant.0 c.loop-found.invariant.1 c.in_default.ensures
