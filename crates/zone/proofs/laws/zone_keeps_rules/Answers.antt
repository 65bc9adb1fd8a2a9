use Rattle.std.proofs.Common.{subst, List, ℕ}
use Rattle.dname.specs.Labels.{AreLabels}
use Rattle.zone.specs.Ruled.{IsNamed}
use Rattle.zone.proofs.LawRules.{zone_is, zone_named}
use Rattle.zone.proofs.laws.zone_keeps_rules.Goals as goal

pub returns-clause-named : goal.returns-clause-named
returns-clause-named g c =
    zone_named c.args.zone.now (subst (λ (n : List (List ℕ)). AreLabels n) c.origin.ensures c.well_formed_law.ensures.labels) c.sound_law.ensures

pub returns-clause-rules : goal.returns-clause-rules
returns-clause-rules g c =
    let named : IsNamed c.args.zone.now =
    zone_named c.args.zone.now (subst (λ (n : List (List ℕ)). AreLabels n) c.origin.ensures c.well_formed_law.ensures.labels) c.sound_law.ensures in
    zone_is c.args.zone.now named c.sound_law.ensures
