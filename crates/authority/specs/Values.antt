-- The TTLs of the records of sets, and which record of a type is the first.
use Rattle.std.specs.Prelude.{◌≡◌, ◌<◌, ℕ, Bool, Option, Some, None, List, [], length, find, get_or, Contains}
use Rattle.rdata.specs.Data.{type_of}
use Rattle.rdata.specs.Records.{Record}
use Rattle.zone.specs.declared.tree.Stand.{Stand}
use Rattle.zone.specs.Ruled.{HasOneTtl}

-- Records of one owner and type have one TTL (RFC 2181, section 5.2).
abbrev pub HaveOneTtl : List Record → Type 0
HaveOneTtl rs = HasOneTtl record { origin = []; records = rs }

-- Of the records of one name, those of one type have one TTL.
abbrev pub AreTimed : List Record → Type 0
AreTimed rs = (r s : Record) → Contains rs r → Contains rs s → type_of r.value ≡ type_of s.value → r.ttl ≡ s.ttl

-- Of the records of one name, if there are any, those of one type have one TTL.
abbrev pub AreTimedIn : Option (List Record) → Type 0
AreTimedIn None = Unit {0}
AreTimedIn (Some rs) = AreTimed rs

-- Of the records of a name, and of its wildcard, those of one type have one TTL.
abbrev pub IsTimed : {H : Type 0} → Option (Stand H) → Type 0
IsTimed None = Unit {0}
IsTimed (Some s) = AreTimed s.own

-- The first of the records that pass a test stands there.
pub record IsFirst (p : Record → Bool) (rs : List Record) (i : ℕ) : Type 0 where
  pub inside : i < length rs
  pub found : (r : Record) → find p rs ≡ Some (get_or rs i r)
