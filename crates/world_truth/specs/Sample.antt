-- A small world that is well formed: a root zone, a zone that it cuts off, one server of both, and a hint.
use Rattle.std.specs.Prelude.{[], ◌∷◌}
use Rattle.dname.specs.Labels.{Name, root}
use Rattle.rdata.specs.Data.{Datum, Ipv4, Ns, Cname, Soa}
use Rattle.rdata.specs.Records.{Record}
use Rattle.zone.specs.Zones.{Zone, IsCut}
use Rattle.world_truth.specs.Worlds.{Address, Host, World, IsWorld}

-- `n.`, the server; `l.`, the zone that is cut off; `w.l.` and `x.l.`, an alias and a host in it.
abbrev pub server_name : Name
server_name = (110 ∷ []) ∷ root

abbrev pub lower_name : Name
lower_name = (108 ∷ []) ∷ root

abbrev pub alias_name : Name
alias_name = (119 ∷ []) ∷ lower_name

abbrev pub host_name : Name
host_name = (120 ∷ []) ∷ lower_name

abbrev pub server_address : Address
server_address = 10 ∷ 0 ∷ 0 ∷ 1 ∷ []

abbrev pub soa_data : Datum
soa_data = Soa (record {
  primary = server_name;
  mailbox = server_name;
  serial = 1;
  refresh = 3600;
  retry = 600;
  expire = 86400;
  minimum = 300;
})

abbrev pub entry : Name → Datum → Record
entry owner value = record { owner = owner; ttl = 300; value = value }

abbrev pub root_zone : Zone
root_zone = record {
  origin = root;
  records = entry root soa_data ∷ entry root (Ns server_name) ∷ entry server_name (Ipv4 server_address) ∷ entry lower_name (Ns server_name) ∷ [];
}

abbrev pub lower_zone : Zone
lower_zone = record {
  origin = lower_name;
  records = entry lower_name soa_data ∷ entry lower_name (Ns server_name) ∷ entry alias_name (Cname host_name) ∷ entry host_name (Ipv4 server_address) ∷ [];
}

abbrev pub sample_host : Host
sample_host = record { address = server_address; origins = root ∷ lower_name ∷ [] }

abbrev pub sample : World
sample = record {
  zones = root_zone ∷ lower_zone ∷ [];
  hosts = sample_host ∷ [];
  locals = [];
  hints = server_address ∷ [];
}

-- It is well formed, and it has a cut: the premises of the laws can be met.
pub record SampleStands : Type 0 where
  pub world : IsWorld sample
  pub cut : IsCut root_zone lower_name
