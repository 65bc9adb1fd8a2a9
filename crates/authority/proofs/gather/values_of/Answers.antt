use Rattle.std.proofs.Common.{◌∙◌, refl, ap, map}
use Rattle.std.proofs.lemmas.List.{take_all}
use Rattle.rdata.specs.Kept.{datum}
use Rattle.rdata.specs.Types.{type_number}
use Rattle.rdata.proofs.Found.{none_found}
use Rattle.authority.specs.Climb.{target, is_picked, picked}
use Rattle.zone.specs.Values.{values_of}
use Rattle.zone.proofs.Picked.{value_more}
use Rattle.authority.proofs.gather.values_of.Goals as goal

pub loop-rr-init : goal.loop-rr-init
loop-rr-init g c = record { made = ap (map datum) c.new-values.ensures.items; found = none_found c.new-later.result c.new-values.result.items c.new-later.ensures.empty c.new-values.ensures.items }

pub loop-rr-preserved : goal.loop-rr-preserved
loop-rr-preserved g c = record {
  made = value_more (is_picked (target c.args.whose c.args.name.now) (type_number c.args.kind)) c.args.records.now (map datum c.loop-rr.values.items) (map datum c.put_wanted.new.values.items)
      c.loop-rr.rr-index c.rr-item.result c.rr-item.result.value c.answers.result c.loop-rr-test.true c.rr-item.is c.answers.ensures refl c.loop-rr.invariant.made
      c.in_ok-put_wanted.ensures.values;
  found = c.in_ok-put_wanted.ensures.found;
}

pub returns : goal.returns
returns g c =
    c.loop-rr.invariant.made ∙ ap (λ rs. values_of (picked (target c.args.whose c.args.name.now) (type_number c.args.kind) rs)) (take_all c.loop-rr.rr-index c.args.records.now c.loop-rr-test.false)
