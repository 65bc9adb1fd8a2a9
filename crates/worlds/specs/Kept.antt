-- How a world is kept: its parts, seen as the plain values of the definitions.
use Rattle.std.specs.Prelude.{List, map}
use Rattle.dname.specs.Labels.{Name}
use Rattle.rdata.specs.declared.addr.Addr.{Addr}
use Rattle.zone.specs.Zones.{Zone}
use Rattle.world_truth.specs.Worlds.{Address, Host, World}

abbrev pub host_with : Address → List Name → Host
host_with address origins = record { address = address; origins = origins }

-- The bytes of addresses.
abbrev pub bytes_of : Addr → Address
bytes_of a = a.0

abbrev pub addresses : List Addr → List Address
addresses list = map bytes_of list

abbrev pub world_with : List Zone → List Host → List Addr → List Name → World
world_with zones hosts hints locals = record {
  zones = zones;
  hosts = hosts;
  locals = locals;
  hints = addresses hints;
}
