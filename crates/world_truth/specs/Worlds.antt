-- A world: the zones there are, who serves them, which of them the resolver itself holds, and where it
-- begins (RFC 1034, sections 2.4, 4.1 and 4.2).
use Rattle.std.specs.Prelude.{◌≡◌, ◌≢◌, ℕ, ◌≤◌, ◌⊎◌, List, [], ◌∷◌, length, Contains}
use Rattle.dname.specs.Labels.{Name, root, IsName}
use Rattle.rdata.specs.Data.{Ipv4, Ns}
use Rattle.rdata.specs.Records.{Record}
use Rattle.zone.specs.Zones.{Zone, At, IsCut, IsBeneath, a_type, ns_type}
use Rattle.zone.specs.Links.{Found, IsLink}
use Rattle.zone.specs.Ruled.{IsZone}
use Rattle.authority.specs.Catalogs.{IsInCharge}

-- An IPv4 address: its four bytes.
abbrev pub Address : Type 0
Address = List ℕ

-- A server: its address, and the origins of the zones that it serves.
pub record Host : Type 0 where
  pub address : Address
  pub origins : List Name

-- `locals`: the origins of the zones that the resolver itself holds; one without a zone means nothing.
-- `hints`: addresses of servers of the root.
pub record World : Type 0 where
  pub zones : List Zone
  pub hosts : List Host
  pub locals : List Name
  pub hints : List Address

-- The server at that address serves the zone of that origin.
abbrev pub Serves : World → Address → Name → Type 0
Serves W a o = (h : Host) × Contains W.hosts h × (h.address ≡ a) × Contains h.origins o

abbrev pub IsOrigin : World → Name → Type 0
IsOrigin W o = (z : Zone) × Contains W.zones z × (z.origin ≡ o)

-- The zone right above an origin: of those strictly above it, the one with the longest origin. It is the
-- one that is to delegate it (RFC 1034, section 4.2.1).
pub record IsParent (W : World) (o : Name) (z : Zone) : Type 0 where
  pub stands : Contains W.zones z
  pub over : IsBeneath o z.origin
  pub longest : (y : Zone) → Contains W.zones y → IsBeneath o y.origin → length y.origin ≤ length z.origin

-- An NS record at that cut, in some zone, names that server (RFC 1034, section 4.2.1).
abbrev pub IsServerName : World → Name → Name → Type 0
IsServerName W c n = (z : Zone) × (r : Record) × Contains W.zones z × IsCut z c × At z c ns_type r × (r.value ≡ Ns n)

-- An address of that name: an A record of it in any zone, so glue too, or in what the zone in charge of the
-- name finds for type A.
abbrev pub IsAddressOf : World → Name → Address → Type 0
IsAddressOf W n a =
    ((z : Zone) × (r : Record) × Contains W.zones z × Contains z.records r × (r.owner ≡ n) × (r.value ≡ Ipv4 a))
    ⊎ ((z : Zone) × (set : List Record) × (r : Record) × IsInCharge W.zones n z × IsLink z n a_type (Found set) × Contains set r × (r.value ≡ Ipv4 a))

-- No two zones have one origin.
abbrev pub HaveOwnOrigins : List Zone → Type 0
HaveOwnOrigins [] = Unit {0}
HaveOwnOrigins (z ∷ zs) = ((y : Zone) → Contains zs y → y.origin ≢ z.origin) × HaveOwnOrigins zs

-- A well formed world.
pub record IsWorld (W : World) : Type 0 where
  -- Each zone keeps the rules of a zone, its origin is a name, and no two have one origin.
  pub zones : (z : Zone) → Contains W.zones z → IsZone z
  pub names : (z : Zone) → Contains W.zones z → IsName z.origin
  pub parted : HaveOwnOrigins W.zones
  -- There is a zone at the root (RFC 1034, section 3.1).
  pub rooted : IsOrigin W root
  -- What a zone cuts off is a zone (RFC 1034, section 4.2).
  pub cuts : (z : Zone) (c : Name) → Contains W.zones z → IsCut z c → IsOrigin W c
  -- Each zone is the root's or local, or the zone right above delegates it (RFC 1034, section 4.2.1).
  pub delegated : (z : Zone) → Contains W.zones z → (z.origin ≡ root) ⊎ Contains W.locals z.origin ⊎ ((p : Zone) × IsParent W z.origin p × IsCut p z.origin)
  -- The servers that a cut's NS records name serve it, at each of their addresses (RFC 1034, section 4.2.2),
  -- and servers serve zones that there are.
  pub servers : (c n : Name) (a : Address) → IsServerName W c n → IsAddressOf W n a → Serves W a c
  pub hosts : (a : Address) (o : Name) → Serves W a o → IsOrigin W o
  -- Each hint serves the root, and there is one unless the root is local (RFC 1034, section 5.3.2).
  pub hints : (a : Address) → Contains W.hints a → Serves W a root
  pub start : Contains W.locals root ⊎ ((a : Address) × Contains W.hints a)
