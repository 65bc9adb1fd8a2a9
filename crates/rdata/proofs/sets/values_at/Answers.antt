use Rattle.std.proofs.Common.{◌∙◌, true, false, map, sym, ap}
use Rattle.rdata.specs.Kept.{datum}
use Rattle.rdata.specs.Records.{Record}
use Rattle.rdata.specs.Types.{type_number}
use Rattle.rdata.proofs.Found.{none_found}
use Rattle.rdata.proofs.Gathering.{values_more, values_none, values_whole}
use Rattle.rdata.proofs.sets.values_at.Goals as goal
use Rattle.rdata.proofs.sets.values_at.Goals.{then-is_at+in_ok-put_once, else-is_at}

pub loop-rr-init : goal.loop-rr-init
loop-rr-init g c = record {
  made = λ t. values_none c.args.owner.now t c.in_ok-values.values.items c.in_ok-values.ensures.items;
  found = none_found c.new-later.result c.in_ok-values.values.items c.new-later.ensures.empty c.in_ok-values.ensures.items;
}

pub loop-rr-preserved : goal.loop-rr-preserved
loop-rr-preserved g c = elim c.if-is_at.branch [
  | then-is_at+in_ok-put_once w ↦ record {
    made = λ t. values_more c.args.owner.now (type_number c.args.kind) t c.args.records.now c.loop-rr.values.items c.if-is_at.values.items c.loop-rr.rr-index
        c.rr-item.result (datum c.rr.inside.value) true c.loop-rr-test.true c.rr-item.is (sym w.if-is_at.true ∙ c.is_at.ensures) (ap (λ (r : Record). r.value) c.rr.view_is)
        (c.loop-rr.invariant.made t) (ap (λ v. map datum v.items) w.values-is ∙ w.in_ok-put_once.ensures.values);
    found = rw w.later-is (rw w.values-is w.in_ok-put_once.ensures.found);
  }
  | else-is_at w ↦ record {
    made = λ t. values_more c.args.owner.now (type_number c.args.kind) t c.args.records.now c.loop-rr.values.items c.if-is_at.values.items c.loop-rr.rr-index
        c.rr-item.result (datum c.rr.inside.value) false c.loop-rr-test.true c.rr-item.is (sym w.if-is_at.false ∙ c.is_at.ensures) (ap (λ (r : Record). r.value) c.rr.view_is)
        (c.loop-rr.invariant.made t) (ap (λ v. map datum v.items) w.values-is);
    found = rw w.later-is (rw w.values-is c.loop-rr.invariant.found);
  }
]

pub returns : goal.returns
returns g c t =
    values_whole c.args.owner.now (type_number c.args.kind) t c.loop-rr.rr-index c.args.records.now c.loop-rr.values.items c.loop-rr-test.false (c.loop-rr.invariant.made t)
