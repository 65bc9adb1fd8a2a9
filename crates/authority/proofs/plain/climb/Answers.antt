use Rattle.std.proofs.Common.{◌∙◌}
use Rattle.rdata.specs.Types.{type_number}
use Rattle.zone.specs.Look.{climbed}
use Rattle.authority.proofs.Ascents.{shorter, climb_stops, climb_goes_on}
use Rattle.authority.proofs.plain.climb.Goals as goal

pub up-smaller : goal.up-smaller
up-smaller g c = shorter c.up.up c.ascend.new.self c.up-test.ensures.above

pub up-preserved : goal.up-preserved
up-preserved g c =
    climb_goes_on c.args.soa.now c.args.name.now (type_number c.args.kind) c.args.records.now c.up.up c.ascend.new.self c.has_owner_under.result
    (climbed c.args.soa.now c.args.name.now (type_number c.args.kind) c.args.records.now c.args.name.now) c.up-test.ensures.above c.has_owner_under.ensures c.if-has_owner_under.false c.up.invariant

pub returns-then-has_owner_under : goal.returns-then-has_owner_under
returns-then-has_owner_under g c =
    c.in_ok-wildcard.ensures
    ∙ climb_stops c.args.soa.now c.args.name.now (type_number c.args.kind) c.args.records.now c.up.up c.ascend.new.self c.has_owner_under.result
    (climbed c.args.soa.now c.args.name.now (type_number c.args.kind) c.args.records.now c.args.name.now) c.up-test.ensures.above c.has_owner_under.ensures c.if-has_owner_under.true c.up.invariant
