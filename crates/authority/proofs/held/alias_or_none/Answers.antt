use Rattle.std.proofs.Common.{◌∙◌, sym, ap}
use Rattle.zone.specs.Zones.{cname_type}
use Rattle.zone.specs.Links.{Alias, NoData}
use Rattle.zone.specs.Look.{is_type}
use Rattle.authority.proofs.Picks.{alias_found, alias_missing}
use Rattle.authority.proofs.held.alias_or_none.Goals as goal

pub returns-in_ok-owned_by-in-Some : goal.returns-in_ok-owned_by-in-Some
returns-in_ok-owned_by-in-Some g c =
    ap Alias c.in_ok-owned_by-in-Some.ensures ∙ sym (alias_found (is_type cname_type) c.args.soa.now c.args.owner.now c.args.held.now c.in-Some.alias.now (sym c.in-Some.ensures))

pub returns-in_ok-clone-in-None : goal.returns-in_ok-clone-in-None
returns-in_ok-clone-in-None g c =
    ap NoData c.in_ok-clone-in-None.ensures.cases ∙ sym (alias_missing (is_type cname_type) c.args.soa.now c.args.owner.now c.args.held.now (sym c.in-None.ensures))
