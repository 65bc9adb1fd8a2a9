-- The addresses of the servers that NS records name.
use Rattle.std.specs.Prelude.{Bool, ◌&&◌, List}
use Rattle.std.specs.List.{list_any}
use Rattle.dname.specs.Labels.{Name, same_name, is_under}
use Rattle.rdata.specs.Records.{Record}
use Rattle.zone.specs.Zones.{a_type}
use Rattle.zone.specs.Look.{is_type}

abbrev pub is_one_of : Name → List Name → Bool
is_one_of n targets = list_any (λ (m : Name). same_name m n) targets

-- An A record at or under the zone, of one of these names.
abbrev pub is_given : Name → List Name → Record → Bool
is_given f targets r = is_type a_type r && is_under r.owner f && is_one_of r.owner targets
