use Rattle.std.proofs.Common.{◌∙◌, true, false, refl, sym, ap, subst, map, arith}
use Rattle.std.proofs.lemmas.List.{take_all}
use Rattle.rdata.specs.Kept.{datum}
use Rattle.rdata.specs.Later.{AreFound}
use Rattle.rdata.specs.Records.{Record}
use Rattle.rdata.specs.Types.{type_number}
use Rattle.rdata.proofs.Found.{none_found}
use Rattle.zone.specs.Look.{is_type, of_type}
use Rattle.zone.specs.Values.{values_of}
use Rattle.zone.proofs.Picked.{value_more}
use Rattle.zone.proofs.held.values_of.Goals as goal
use Rattle.zone.proofs.held.values_of.Goals.{then-is_type+in_ok-put_once, else-is_type}

pub loop-index-init : goal.loop-index-init
loop-index-init g c = record { made = ap (map datum) c.in_ok-values.ensures.items; found = none_found c.new-later.result c.in_ok-values.values.items c.new-later.ensures.empty c.in_ok-values.ensures.items }

pub loop-index-preserved : goal.loop-index-preserved
loop-index-preserved g c = elim c.if-is_type.branch [
  | then-is_type+in_ok-put_once w ↦ record {
    made = value_more (is_type (type_number c.args.kind)) c.args.held.now (map datum c.loop-index.values.items) _ c.loop-index.index c.get-rr.result.now (datum c.rr.inside.value) true
        (omega (arith, c.loop-index-test.true, c.len-index-end.ensures)) c.get-rr.ensures (sym w.if-is_type.true ∙ c.is_type.ensures) (ap (λ (r : Record). r.value) c.rr.view_is) c.loop-index.invariant.made (ap (λ v. map datum v.items) w.values-is ∙ w.in_ok-put_once.ensures.values);
    found = subst (λ l. AreFound l (map datum c.if-is_type.values.items)) (sym w.later-is) (subst (λ v. AreFound w.put_once.new.later (map datum v.items)) (sym w.values-is) w.in_ok-put_once.ensures.found);
  }
  | else-is_type w ↦ record {
    made = value_more (is_type (type_number c.args.kind)) c.args.held.now (map datum c.loop-index.values.items) _ c.loop-index.index c.get-rr.result.now c.get-rr.result.now.value false
        (omega (arith, c.loop-index-test.true, c.len-index-end.ensures)) c.get-rr.ensures (sym w.if-is_type.false ∙ c.is_type.ensures) refl c.loop-index.invariant.made (ap (λ v. map datum v.items) w.values-is);
    found = subst (λ l. AreFound l (map datum c.if-is_type.values.items)) (sym w.later-is) (subst (λ v. AreFound c.loop-index.later (map datum v.items)) (sym w.values-is) c.loop-index.invariant.found);
  }
]

pub returns : goal.returns
returns g c =
    c.loop-index.invariant.made
    ∙ ap (λ rs. values_of (of_type (type_number c.args.kind) rs)) (take_all c.loop-index.index c.args.held.now (omega (arith, c.loop-index-test.false, c.len-index-end.ensures)))
