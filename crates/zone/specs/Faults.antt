-- Why records are no zone: the refusals' numbers, and the refusal that answers.
use Rattle.std.specs.Prelude.{◌≡◌, ℕ, Option, Some, None, List, codes, cond}
use Rattle.zone.specs.declared.fault.ZoneError.{ZoneError}
use Rattle.zone.specs.declared.fault.ZoneError.TheVariants.{Soa, NoServers, ForeignOwner, CnameClash, MixedTtls, DataAtCut, InnerStar, WildcardAuthority, WildcardBeneathCut, Memory}
use Rattle.zone.specs.Zones.{Zone}
use Rattle.zone.specs.Rules.{lacks_soa, lacks_servers, has_foreign_owner, has_cname_clash, has_mixed_ttls, has_data_at_cut, has_inner_star, has_wildcard_authority, has_wildcard_beneath_cut}

abbrev pub fault_number : ZoneError → ℕ
fault_number Soa = 1
fault_number NoServers = 2
fault_number ForeignOwner = 3
fault_number CnameClash = 4
fault_number MixedTtls = 5
fault_number DataAtCut = 6
fault_number InnerStar = 7
fault_number WildcardAuthority = 8
fault_number WildcardBeneathCut = 9
fault_number Memory = 10

abbrev pub fault_text : ZoneError → List ℕ
fault_text Soa = codes "not exactly one SOA record, at the origin"
fault_text NoServers = codes "no NS record at the origin"
fault_text ForeignOwner = codes "an owner outside the zone"
fault_text CnameClash = codes "a CNAME beside other records"
fault_text MixedTtls = codes "different TTLs in a record set"
fault_text DataAtCut = codes "other data than glue at or beneath a cut"
fault_text InnerStar = codes "a label `*` that is not the first of its owner"
fault_text WildcardAuthority = codes "NS or SOA at a wildcard"
fault_text WildcardBeneathCut = codes "a wildcard beneath a cut"
fault_text Memory = codes "out of memory"

-- The rule of the lowest number that is broken.
abbrev pub fault_of : Zone → Option ZoneError
fault_of z =
    cond (lacks_soa z) (Some Soa) (cond (lacks_servers z) (Some NoServers) (cond (has_foreign_owner z) (Some ForeignOwner)
    (cond (has_cname_clash z) (Some CnameClash) (cond (has_mixed_ttls z) (Some MixedTtls) (cond (has_data_at_cut z) (Some DataAtCut)
    (cond (has_inner_star z) (Some InnerStar) (cond (has_wildcard_authority z) (Some WildcardAuthority) (cond (has_wildcard_beneath_cut z) (Some WildcardBeneathCut) None))))))))

-- When records may be refused so: for that very rule; out of memory at any time.
abbrev pub IsFault : ZoneError → Option ZoneError → Type 0
IsFault Memory f = Unit {0}
IsFault e f = f ≡ Some e
