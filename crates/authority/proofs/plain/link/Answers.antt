use Rattle.std.proofs.Common.{◌∙◌}
use Rattle.rdata.specs.Types.{type_number}
use Rattle.zone.specs.Zones.{Zone}
use Rattle.authority.proofs.Picks.{link_here, link_above}
use Rattle.authority.proofs.plain.link.Goals as goal

pub returns-then-has_owner_under : goal.returns-then-has_owner_under
returns-then-has_owner_under g c =
    let z : Zone = record { origin = c.args.origin.now; records = c.args.records.now } in
    c.in_ok-say.ensures ∙ link_here c.args.soa.now z c.args.name.now (type_number c.args.kind) c.has_owner_under.result c.requires.uncut c.has_owner_under.ensures c.if-has_owner_under.true

pub returns : goal.returns
returns g c =
    let z : Zone = record { origin = c.args.origin.now; records = c.args.records.now } in
    c.in_ok-climb.ensures ∙ link_above c.args.soa.now z c.args.name.now (type_number c.args.kind) c.has_owner_under.result c.requires.uncut c.has_owner_under.ensures c.if-has_owner_under.false
