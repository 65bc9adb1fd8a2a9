use Rattle.std.proofs.Common.{◌∙◌, sym, ap}
use Rattle.zone.specs.Zones.{cname_type}
use Rattle.zone.specs.Links.{Alias, NoData}
use Rattle.authority.specs.Climb.{target, is_picked}
use Rattle.authority.proofs.Picks.{alias_found, alias_missing}
use Rattle.authority.proofs.plain.alias_or_none.Goals as goal

pub returns-in_ok-owned_by-in-Some : goal.returns-in_ok-owned_by-in-Some
returns-in_ok-owned_by-in-Some g c =
    ap Alias c.in_ok-owned_by-in-Some.ensures
    ∙ sym (alias_found (is_picked (target c.args.whose c.args.name.now) cname_type) c.args.soa.now c.args.owner.now c.args.records.now c.in-Some.alias.now (sym c.in-Some.ensures))

pub returns-in_ok-clone-in-None : goal.returns-in_ok-clone-in-None
returns-in_ok-clone-in-None g c =
    ap NoData c.in_ok-clone-in-None.ensures.cases
    ∙ sym (alias_missing (is_picked (target c.args.whose c.args.name.now) cname_type) c.args.soa.now c.args.owner.now c.args.records.now (sym c.in-None.ensures))
