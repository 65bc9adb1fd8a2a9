-- The part of a cut that a frame can use. A referral may list thousands of servers; a frame uses sixteen names and
-- sixteen addresses of it, and no more than these need is cached.
use Rattle.std.specs.Prelude.{◌&&◌, Option, Some, None, List, [], ◌∷◌, ◌++◌, find, take}
use Rattle.std.specs.List.{flat_map}
use Rattle.dname.specs.Labels.{Name, same_name}
use Rattle.rdata.specs.declared.addr.Addr.{Addr}
use Rattle.retry.specs.Penalties.{same_addr}
use Rattle.referral.specs.Cuts.{Cut, ServerAddress}
use Rattle.frames.specs.Frames.{most_taken, has_address, taken_addresses}

abbrev pub alone : Option ServerAddress → List ServerAddress
alone None = []
alone (Some s) = s ∷ []

-- The first entry with this address; the first one by which a name is known, where these addresses are in use.
abbrev pub entry_at : List ServerAddress → Addr → Option ServerAddress
entry_at ss a = find (λ (s : ServerAddress). same_addr s.address a) ss

abbrev pub entry_of : List ServerAddress → List Addr → Name → Option ServerAddress
entry_of ss taken n = find (λ (s : ServerAddress). same_name s.name n && has_address taken s.address) ss

-- The first names; the first entry of each address that is used; and for each of these names the first entry by which
-- it is known. Those are sixteen names and thirty-two addresses at most, and give the same frame as the whole cut.
abbrev pub trimmed : Cut → Cut
trimmed c = record {
  owner = c.owner;
  names = take most_taken c.names;
  addresses = flat_map (λ (a : Addr). alone (entry_at c.addresses a)) (taken_addresses c)
      ++ flat_map (λ (n : Name). alone (entry_of c.addresses (taken_addresses c) n)) (take most_taken c.names);
}
