-- The names that NS records give for servers (RFC 1035, section 3.3.11).
use Rattle.std.specs.Prelude.{List, [], ◌∷◌}
use Rattle.std.specs.List.{flat_map}
use Rattle.dname.specs.Labels.{Name}
use Rattle.rdata.specs.Data.{Datum, Ns}
use Rattle.rdata.specs.Records.{Record}

abbrev pub ns_target : Datum → List Name
ns_target (Ns target) = target ∷ []
ns_target _ = []

abbrev pub targets_of : List Record → List Name
targets_of rs = flat_map (λ (r : Record). ns_target r.value) rs
