-- Links as they are stored: an owner that is the key's name is not stored again.
use Rattle.std.specs.Prelude.{ℕ, List, map}
use Rattle.rdata.specs.Data.{Datum}
use Rattle.rdata.specs.Records.{Record}
use Rattle.zone.specs.Links as said
use Rattle.lru_laws.specs.Orders.{mapped}
use Rattle.cache.specs.Keys.{Key}
use Rattle.cache.specs.Cached.{Hit}
use Rattle.cache.specs.Denials.{Denied, denied}

-- The data of a set and of an alias whose owners are the key's name, negative answers by an SOA record, and any link.
pub data Form : Type 0 where
  Set : List Datum → Form
  Alias : Datum → Form
  NoData : Denied → Form
  NxDomain : Denied → Form
  Whole : said.Link → Form

-- The form, the TTL of the records whose data it has, and for how long and since when the link is cached.
pub record Packed : Type 0 where
  pub form : Form
  pub records_ttl : ℕ
  pub ttl : ℕ
  pub since : ℕ

abbrev pub owned : List (List ℕ) → ℕ → Datum → Record
owned q ttl d = record { owner = q; ttl = ttl; value = d }

abbrev pub link_of : List (List ℕ) → ℕ → Form → said.Link
link_of q ttl (Set ds) = said.Found (map (owned q ttl) ds)
link_of q ttl (Alias d) = said.Alias (owned q ttl d)
link_of q ttl (NoData d) = said.NoData (denied ttl d)
link_of q ttl (NxDomain d) = said.NxDomain (denied ttl d)
link_of q ttl (Whole l) = l

-- The link under a key of this name.
abbrev pub hit_of_packed : List (List ℕ) → Packed → Hit
hit_of_packed q p = record { link = link_of q p.records_ttl p.form; ttl = p.ttl; since = p.since }

abbrev pub unpacked : List (Key × Packed) → List (Key × Hit)
unpacked es = mapped (λ (k : Key). hit_of_packed k.name) es
