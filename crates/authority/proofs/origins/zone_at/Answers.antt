use Rattle.std.proofs.Common.{◌∙◌, ap, sym, refl, Bool, Some, None, cond}
use Rattle.std.specs.Option.{option_copied}
use Rattle.authority.proofs.Places.{lent_at, zone_told}
use Rattle.authority.proofs.origins.zone_at.Goals as goal

pub returns-in_err-at : goal.returns-in_err-at
returns-in_err-at g c =
    ap option_copied c.from_residual.ensures
    ∙ zone_told c.args.places.now.by_origin c.args.places.now.sizes c.args.zones.now (option_copied c.args.listed) c.args.name.now None None c.requires c.in_err-at.ensures refl

pub returns-in_err-zone : goal.returns-in_err-zone
returns-in_err-zone g c =
    ap option_copied c.from_residual-in_err-zone.ensures
    ∙ zone_told c.args.places.now.by_origin c.args.places.now.sizes c.args.zones.now (option_copied c.args.listed) c.args.name.now (Some c.in_ok-at.field-0) None c.requires c.in_ok-at.ensures
    (lent_at c.args.zones.now c.in_ok-at.field-0 None c.in_err-zone.ensures.lookup)

pub returns-then-is_chosen : goal.returns-then-is_chosen
returns-then-is_chosen g c =
    sym (ap (λ (b : Bool). cond b (Some c.in_ok-zone.zone.now) None) (sym c.is_chosen.ensures ∙ c.if-is_chosen.true))
    ∙ zone_told c.args.places.now.by_origin c.args.places.now.sizes c.args.zones.now (option_copied c.args.listed) c.args.name.now (Some c.in_ok-at.field-0) (Some c.in_ok-zone.zone.now) c.requires c.in_ok-at.ensures
    (lent_at c.args.zones.now c.in_ok-at.field-0 (Some c.in_ok-zone.zone) c.in_ok-zone.ensures.lookup)

pub returns-else-is_chosen : goal.returns-else-is_chosen
returns-else-is_chosen g c =
    sym (ap (λ (b : Bool). cond b (Some c.in_ok-zone.zone.now) None) (sym c.is_chosen.ensures ∙ c.if-is_chosen.false))
    ∙ zone_told c.args.places.now.by_origin c.args.places.now.sizes c.args.zones.now (option_copied c.args.listed) c.args.name.now (Some c.in_ok-at.field-0) (Some c.in_ok-zone.zone.now) c.requires c.in_ok-at.ensures
    (lent_at c.args.zones.now c.in_ok-at.field-0 (Some c.in_ok-zone.zone) c.in_ok-zone.ensures.lookup)
