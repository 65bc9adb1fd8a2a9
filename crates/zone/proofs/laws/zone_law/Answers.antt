use Rattle.zone.specs.Ruled.{IsZone}
use Rattle.zone.proofs.LawRules.{zone_is, zone_holds}
use Rattle.zone.proofs.LawZones.{soa_at_origin, one_soa, one_alias_name, has_denial}
use Rattle.zone.proofs.laws.zone_law.Goals as goal

pub returns : goal.returns
returns c = record { rules = λ z n. (zone_is z n, zone_holds z); premises = λ z k. (soa_at_origin z k, one_soa z k, let t : IsZone z = k in t.ttls, one_alias_name z k, has_denial z k) }
