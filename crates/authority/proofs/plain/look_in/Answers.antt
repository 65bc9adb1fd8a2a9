use Rattle.std.proofs.Common.{◌∙◌, sym}
use Rattle.rdata.specs.Types.{type_number}
use Rattle.zone.specs.Zones.{Zone}
use Rattle.authority.proofs.Picks.{look_cut}
use Rattle.authority.proofs.plain.look_in.Goals as goal

pub returns-in_ok-refer-in-Some : goal.returns-in_ok-refer-in-Some
returns-in_ok-refer-in-Some g c =
    let z : Zone = record { origin = c.args.origin.now; records = c.args.records.now } in
    c.in_ok-refer-in-Some.ensures c.args.origin.now ∙ look_cut c.args.soa.now z c.args.name.now c.in-Some.cut (type_number c.args.kind) (sym c.in-Some.is ∙ c.in_ok-cut.ensures)
