use Rattle.std.proofs.Common.{map, arith}
use Rattle.rdata.specs.Kept.{datum}
use Rattle.rdata.proofs.Found.{among_first, few_new, short_found, first_few, found_new, found_more}
use Rattle.rdata.proofs.sets.is_new.Goals as goal

pub returns-then-has-clause-new : goal.returns-then-has-clause-new
returns-then-has-clause-new g c = among_first c.min-few.result c.args.values.now c.args.added.now c.has.result c.has.ensures c.if-has.true

pub returns-then-values-lt-FEW-clause-new : goal.returns-then-values-lt-FEW-clause-new
returns-then-values-lt-FEW-clause-new g c = few_new c.min-few.result c.args.values.now c.args.added.now c.has.result c.min-few.ensures (omega arith) c.has.ensures c.if-has.false

pub returns-then-values-lt-FEW-clause-found : goal.returns-then-values-lt-FEW-clause-found
returns-then-values-lt-FEW-clause-found g c = short_found c.args.later.now c.args.values.now (datum c.args.added.now) (omega arith) c.requires

pub returns-clause-new : goal.returns-clause-new
returns-clause-new g c =
    found_new c.args.later.now (map datum c.args.values.now) c.args.added c.in_ok-insert.field-0
    (first_few c.min-few.result c.args.values.now c.args.added.now c.has.result c.min-few.ensures (omega arith) c.has.ensures c.if-has.false) c.requires
    (c.in_ok-insert.ensures {u = tt}).added

pub returns-clause-found : goal.returns-clause-found
returns-clause-found g c =
    found_more c.args.later.now c.insert.new.self c.args.values.now c.args.added c.in_ok-insert.field-0
    (omega arith) c.requires (c.in_ok-insert.ensures {u = tt}).updates.0 (c.in_ok-insert.ensures {u = tt}).unchanged
