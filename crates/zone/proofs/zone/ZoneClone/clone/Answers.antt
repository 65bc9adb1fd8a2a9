use Rattle.std.proofs.Common.{◌∙◌, ap, sym, Some}
use Rattle.zone.specs.Look.{denial_of}
use Rattle.zone.specs.Faults.{fault_of}
use Rattle.zone.specs.Kept.{zone_with}
use Rattle.zone.proofs.zone.ZoneClone.clone.Goals as goal

pub invariant_of-result : goal.invariant_of-result
invariant_of-result g c =
    let records = c.in_ok-boxed_copy.ensures ∙ c.deref.ensures in
    record {
      sound = (λ i. fault_of (zone_with (c.in_ok-clone.ensures.cases i) (records i))) ∙ c.self.invariant.sound;
      denied = (λ i. denial_of (zone_with (c.in_ok-clone.ensures.cases i) (records i))) ∙ (c.self.invariant.denied ∙ ap Some (sym c.in_ok-clone-2.ensures.cases));
    }

pub returns : goal.returns
returns g c =
    let records = c.in_ok-boxed_copy.ensures ∙ c.deref.ensures in
    record { cases = (λ i. zone_with (c.in_ok-clone.ensures.cases i) (records i)) ∙ c.self.view_is }
