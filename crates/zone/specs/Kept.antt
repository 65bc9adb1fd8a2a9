-- How a zone is stored: its records meet the rules, and the SOA of its negative answers stands beside them.
use Rattle.std.specs.Prelude.{◌≡◌, ℕ, Some, None, List}
use Rattle.rdata.specs.Records.{Record}
use Rattle.zone.specs.Zones.{Zone}
use Rattle.zone.specs.Look.{denial_of}
use Rattle.zone.specs.Faults.{fault_of}

abbrev pub zone_with : List (List ℕ) → List Record → Zone
zone_with origin records = record { origin = origin; records = records }

pub record IsKept (z : Zone) (denial : Record) : Type 0 where
  pub sound : fault_of z ≡ None
  pub denied : denial_of z ≡ Some denial
