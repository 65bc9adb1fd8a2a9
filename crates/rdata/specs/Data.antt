-- RDATA of the served types as plain values (RFC 1035, sections 3.3 and 3.4; AAAA: RFC 3596, section 2.2; SRV:
-- RFC 2782).
use Rattle.std.specs.Prelude.{ℕ, Bool, false, ◌&&◌, nat_eq, List}
use Rattle.std.specs.Cmp.Lexicographic.{pointwise}
use Rattle.dname.specs.Labels.{same_name}
use Rattle.rdata.specs.Types.{type_number}
use Rattle.rdata.specs.declared.rtype.RType.{RType}
use Rattle.rdata.specs.declared.rtype.RType.TheVariants as kind

-- The data of an SOA record (RFC 1035, section 3.3.13): times in seconds.
pub record Authority : Type 0 where
  pub primary : List (List ℕ)
  pub mailbox : List (List ℕ)
  pub serial : ℕ
  pub refresh : ℕ
  pub retry : ℕ
  pub expire : ℕ
  pub minimum : ℕ

-- The data of an SRV record (RFC 2782): at which host and port a service is offered. Hosts of the lowest priority are
-- tried first, and those of one priority each by a share of the clients, by their weights.
pub record Service : Type 0 where
  pub priority : ℕ
  pub weight : ℕ
  pub port : ℕ
  pub target : List (List ℕ)

-- Addresses are their bytes, four or sixteen; a TXT is its character-strings.
pub data Datum : Type 0 where
  Ipv4 : List ℕ → Datum
  Ns : List (List ℕ) → Datum
  Cname : List (List ℕ) → Datum
  Soa : Authority → Datum
  Ptr : List (List ℕ) → Datum
  Mx : ℕ → List (List ℕ) → Datum
  Txt : List (List ℕ) → Datum
  Ipv6 : List ℕ → Datum
  Srv : Service → Datum

-- The type of data, and its number.
abbrev pub kind_of : Datum → RType
kind_of (Ipv4 a) = kind.A
kind_of (Ns n) = kind.Ns
kind_of (Cname n) = kind.Cname
kind_of (Soa s) = kind.Soa
kind_of (Ptr n) = kind.Ptr
kind_of (Mx p n) = kind.Mx
kind_of (Txt ts) = kind.Txt
kind_of (Ipv6 a) = kind.Aaaa
kind_of (Srv s) = kind.Srv

abbrev pub type_of : Datum → ℕ
type_of d = type_number (kind_of d)

-- Whether data are the same.
abbrev pub same_authority : Authority → Authority → Bool
same_authority a b = same_name a.primary b.primary && same_name a.mailbox b.mailbox && nat_eq a.serial b.serial && nat_eq a.refresh b.refresh
    && nat_eq a.retry b.retry && nat_eq a.expire b.expire && nat_eq a.minimum b.minimum

abbrev pub same_service : Service → Service → Bool
same_service a b = nat_eq a.priority b.priority && nat_eq a.weight b.weight && nat_eq a.port b.port && same_name a.target b.target

abbrev pub same_data : Datum → Datum → Bool
same_data (Ipv4 a) (Ipv4 b) = pointwise nat_eq a b
same_data (Ns m) (Ns n) = same_name m n
same_data (Cname m) (Cname n) = same_name m n
same_data (Soa a) (Soa b) = same_authority a b
same_data (Ptr m) (Ptr n) = same_name m n
same_data (Mx p m) (Mx q n) = nat_eq p q && same_name m n
same_data (Txt a) (Txt b) = pointwise (pointwise nat_eq) a b
same_data (Ipv6 a) (Ipv6 b) = pointwise nat_eq a b
same_data (Srv a) (Srv b) = same_service a b
same_data _ _ = false
