use Rattle.std.proofs.Common.{◌∙◌, sym, ap, ◌∷◌}
use Rattle.dname.specs.Labels.{star}
use Rattle.rdata.specs.Types.{type_number}
use Rattle.zone.specs.Links.{NxDomain}
use Rattle.authority.proofs.Picks.{wild_some, wild_none}
use Rattle.authority.proofs.plain.wildcard.Goals as goal

pub returns-then-is_held : goal.returns-then-is_held
returns-then-is_held g c =
    c.in_ok-say.ensures ∙ wild_some c.args.soa.now c.args.name.now (type_number c.args.kind) (star ∷ c.args.encloser.now) c.args.records.now (sym c.is_held.ensures ∙ c.if-is_held.true)

pub returns : goal.returns
returns g c =
    ap NxDomain c.in_ok-clone.ensures.cases ∙ wild_none c.args.soa.now c.args.name.now (type_number c.args.kind) (star ∷ c.args.encloser.now) c.args.records.now (sym c.is_held.ensures ∙ c.if-is_held.false)
