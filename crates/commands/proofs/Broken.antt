-- What a zone is refused for.
use Rattle.std.proofs.Common.{refl, ℕ, List, Bor}
use Rattle.std.specs.Prelude.{Option}
use Rattle.rdata.specs.Records.{Record}
use Rattle.zone.specs.Faults.{IsFault, fault_of}
use Rattle.zone.specs.Kept.{zone_with}
use Rattle.zone.specs.declared.fault.ZoneError.{ZoneError}
use Rattle.zone.specs.declared.fault.ZoneError.TheVariants as rule
use Rattle.commands.specs.Faults.{zone_fault}
use Rattle.commands.specs.Zones.{HoldsRecords, HoldsNoZone}

pub zone_refused : (held : List ℕ → Option (Option (List ℕ))) (origin : List (List ℕ)) (path : Bor (List ℕ)) (records : List Record) → HoldsRecords (held path.now) origin records
    → (e : ZoneError) → IsFault e (fault_of (zone_with origin records)) → HoldsNoZone held path.now origin (zone_fault path e)
zone_refused held origin path records there rule.Soa is = (refl, (records, there, is))
zone_refused held origin path records there rule.NoServers is = (refl, (records, there, is))
zone_refused held origin path records there rule.ForeignOwner is = (refl, (records, there, is))
zone_refused held origin path records there rule.CnameClash is = (refl, (records, there, is))
zone_refused held origin path records there rule.MixedTtls is = (refl, (records, there, is))
zone_refused held origin path records there rule.DataAtCut is = (refl, (records, there, is))
zone_refused held origin path records there rule.InnerStar is = (refl, (records, there, is))
zone_refused held origin path records there rule.WildcardAuthority is = (refl, (records, there, is))
zone_refused held origin path records there rule.WildcardBeneathCut is = (refl, (records, there, is))
zone_refused held origin path records there rule.Memory is = tt
