-- One zone more, and the end.
use Rattle.std.proofs.Common.{◌∙◌, ap, subst, sym, refl, ℕ, ◌+◌, Some, cond}
use Rattle.std.specs.Prelude.{is_some}
use Rattle.std.proofs.lemmas.Bool.{not-true}
use Rattle.std.proofs.lemmas.List.{take_all}
use Rattle.dname.specs.Keys.{at_name}
use Rattle.dname.specs.Labels.{same_name}
use Rattle.zone.proofs.Members.{no_member}
use Rattle.authority.specs.Catalogs.{zone_at, has_twins, AreZones}
use Rattle.authority.specs.Origins.{placed}
use Rattle.authority.proofs.Places.{none_is, place_more, noted_more}
use Rattle.authority.proofs.Twins.{apart_more, twins_met, zones_more}
use Rattle.authority.proofs.origins.places_of.Goals as goal

pub loop-zone-preserved : goal.loop-zone-preserved
loop-zone-preserved g c =
    let zs = c.args.zones.now in
    let i = c.loop-zone.zone-index in
    let z = c.zone-item.result in
    let known = c.loop-zone.invariant.1 z.origin in
    let fresh = c.in_ok-note.ensures.fresh ∙ none_is (at_name c.loop-zone.places.by_origin z.origin) in
    let alone = sym known ∙ not-true _ (sym fresh ∙ c.if-not-branch.false) in (
      ap (λ (n : ℕ). n + 1) c.loop-zone.invariant.0,
      λ q. noted_more zs i z q _ _ c.loop-zone-test.true c.zone-item.is (c.loop-zone.invariant.1 q)
          (c.in_ok-note.ensures.noted q ∙ ap (λ (n : ℕ). cond (same_name z.origin q) (Some n) (at_name c.loop-zone.places.by_origin q)) c.loop-zone.invariant.0),
      λ q. place_more zs i z q _ _ c.loop-zone-test.true c.zone-item.is alone (c.loop-zone.invariant.2 q)
          (c.in_ok-note.ensures.noted q ∙ ap (λ (n : ℕ). cond (same_name z.origin q) (Some n) (at_name c.loop-zone.places.by_origin q)) c.loop-zone.invariant.0),
      apart_more zs i z _ _ c.loop-zone-test.true c.zone-item.is c.loop-zone.invariant.3 known fresh c.if-not-branch.false,
      zones_more zs i z c.origin.result.now c.loop-zone-test.true c.zone-item.is c.loop-zone.invariant.4 c.zone_keeps_rules.ensures.rules c.origin.ensures c.well_formed_law.ensures,
      c.in_ok-note.ensures.sized,
    )

pub returns-then-not-branch : goal.returns-then-not-branch
returns-then-not-branch g c =
    twins_met c.args.zones.now c.loop-zone.zone-index c.zone-item.result _ _ c.loop-zone-test.true c.zone-item.is (c.loop-zone.invariant.1 c.zone-item.result.origin)
    (c.in_ok-note.ensures.fresh ∙ none_is (at_name c.loop-zone.places.by_origin c.zone-item.result.origin)) c.if-not-branch.true

pub returns : goal.returns
returns g c =
    let whole = take_all c.loop-zone.zone-index c.args.zones.now c.loop-zone-test.false in (
      record {
        apart = sym (ap has_twins whole) ∙ c.loop-zone.invariant.3;
        sound = subst AreZones whole c.loop-zone.invariant.4;
      },
      record {
        at = λ q. c.loop-zone.invariant.2 q ∙ ap (zone_at q) whole;
        sized = c.loop-zone.invariant.5;
      },
    )

pub loop-zone-init : goal.loop-zone-init
loop-zone-init g c =
    let none = c.new-places.ensures.none in (
      refl,
      λ q. ap is_some (none q),
      λ q. ap (placed c.args.zones.now) (none q),
      refl,
      λ z there. absurd (no_member z there),
      c.new-places.ensures.sized,
    )
