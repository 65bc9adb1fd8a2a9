-- The keys of a cache: a name, and a record type or the name's absence.
use Rattle.std.specs.Prelude.{ℕ, Bool, true, false, ◌&&◌, nat_eq, List}
use Rattle.dname.specs.Labels.{same_name}
use Rattle.zone.specs.Links.{Link, Found, Alias, NoData, NxDomain}
use Rattle.zone.specs.Zones.{cname_type}

-- What an entry is about: the type with this number, or the whole name (RFC 2308, section 5).
pub data Slot : Type 0 where
  Kind : ℕ → Slot
  NameError : Slot

pub record Key : Type 0 where
  pub name : List (List ℕ)
  pub slot : Slot

abbrev pub same_slot : Slot → Slot → Bool
same_slot (Kind s) (Kind t) = nat_eq s t
same_slot (Kind s) NameError = false
same_slot NameError (Kind t) = false
same_slot NameError NameError = true

abbrev pub same_key : Key → Key → Bool
same_key a b = same_name a.name b.name && same_slot a.slot b.slot

abbrev pub kind_key : List (List ℕ) → ℕ → Key
kind_key q t = record { name = q; slot = Kind t }

abbrev pub error_key : List (List ℕ) → Key
error_key q = record { name = q; slot = NameError }

-- The slot of a link that answers a question: an alias under CNAME, whatever was asked; an NXDOMAIN under the name
-- alone; a set and NODATA under the type.
abbrev pub slot_for : ℕ → Link → Slot
slot_for t (Found rs) = Kind t
slot_for t (Alias r) = Kind cname_type
slot_for t (NoData soa) = Kind t
slot_for t (NxDomain soa) = NameError

abbrev pub key_for : List (List ℕ) → ℕ → Link → Key
key_for q t l = record { name = q; slot = slot_for t l }
