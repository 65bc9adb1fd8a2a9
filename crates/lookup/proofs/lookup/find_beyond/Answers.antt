use Rattle.rdata.specs.Types.{type_number}
use Rattle.lookup.proofs.Kept.{hit_beyond, start_beyond_is}
use Rattle.lookup.proofs.lookup.find_beyond.Goals as goal

pub returns-in_ok-cached-in-Some-clause-beyond : goal.returns-in_ok-cached-in-Some-clause-beyond
returns-in_ok-cached-in-Some-clause-beyond g c =
    hit_beyond c.args.home.now c.args.now c.args.name.now (type_number c.args.kind) c.args.stores.now c.root_name.result.now c.in_ok-hit.field-0 c.in-Some.hit c.in_ok-cached-in-Some.field-0 c.look.new.self
    c.root_name.ensures c.in-Some.is c.in_ok-hit.ensures.value (rw c.in-Some.is at c.in_ok-hit.ensures.held) c.in_ok-cached-in-Some.ensures c.in_ok-hit.ensures.ok

pub returns-in-None-clause-beyond : goal.returns-in-None-clause-beyond
returns-in-None-clause-beyond g c =
    start_beyond_is c.args.home.now c.args.now c.args.name.now (type_number c.args.kind) c.args.stores.now c.look.new.self c.root_name.result.now c.in_ok-hit.field-0 c.start_beyond.result c.start_beyond.new.stores
    c.well_formed_law.ensures c.root_name.ensures c.in-None.is c.in_ok-hit.ensures.value c.in_ok-hit.ensures.ok c.start_beyond.ensures.start
