-- Records that a zone text can hold, and the law that their text is read back.
use Rattle.std.specs.Prelude.{◌≡◌, ℕ, ◌<◌, ◌≤◌, Ok, List, [], ◌∷◌, length}
use Rattle.dname.specs.Labels.{IsName}
use Rattle.dname.specs.Spelling.{AreBytes}
use Rattle.rdata.specs.Data.{Authority, Service, Datum, Ipv4, Ns, Cname, Soa, Ptr, Mx, Txt, Ipv6, Srv}
use Rattle.rdata.specs.Records.{Record, greatest_ttl}
use Rattle.masterfile.specs.Fields.{greatest_16, greatest_32}
use Rattle.masterfile.specs.Files.{read_text}
use Rattle.masterfile.specs.MasterText.{strings_size}
use Rattle.masterfile.specs.Printed.{file_text}

-- An SOA record's data are within their bounds: two names and five numbers of 32 bits (RFC 1035, section 3.3.13).
pub record IsAuthority (s : Authority) : Type 0 where
  pub primary : IsName s.primary
  pub mailbox : IsName s.mailbox
  pub serial : s.serial ≤ greatest_32
  pub refresh : s.refresh ≤ greatest_32
  pub retry : s.retry ≤ greatest_32
  pub expire : s.expire ≤ greatest_32
  pub minimum : s.minimum ≤ greatest_32

-- An SRV record's data are within their bounds: three numbers of 16 bits and a name (RFC 2782).
pub record IsService (s : Service) : Type 0 where
  pub priority : s.priority ≤ greatest_16
  pub weight : s.weight ≤ greatest_16
  pub port : s.port ≤ greatest_16
  pub target : IsName s.target

-- Strings of at most 255 bytes (RFC 1035, section 3.3).
abbrev pub AreCharacterStrings : List (List ℕ) → Type 0
AreCharacterStrings [] = Unit {0}
AreCharacterStrings (t ∷ ts) = AreBytes t × (length t ≤ 255) × AreCharacterStrings ts

-- Data within their bounds (RFC 1035, sections 3.3 and 3.4; AAAA: RFC 3596, section 2.2; SRV: RFC 2782): a TXT has one string or more,
-- and at most 65,535 bytes in a message.
abbrev pub IsSoundData : Datum → Type 0
IsSoundData (Ipv4 a) = (length a ≡ 4) × AreBytes a
IsSoundData (Ns n) = IsName n
IsSoundData (Cname n) = IsName n
IsSoundData (Soa s) = IsAuthority s
IsSoundData (Ptr n) = IsName n
IsSoundData (Mx p n) = (p ≤ greatest_16) × IsName n
IsSoundData (Txt ts) = (0 < length ts) × AreCharacterStrings ts × (strings_size ts ≤ 65535)
IsSoundData (Ipv6 a) = (length a ≡ 16) × AreBytes a
IsSoundData (Srv s) = IsService s

pub record IsSound (r : Record) : Type 0 where
  pub owner : IsName r.owner
  pub ttl : r.ttl ≤ greatest_ttl
  pub value : IsSoundData r.value

abbrev pub AreSound : List Record → Type 0
AreSound [] = Unit {0}
AreSound (r ∷ rs) = IsSound r × AreSound rs

-- A TXT that fits a message: its strings have at most 65,535 bytes with their length bytes (RFC 1035, section 3.2.1). All
-- other data are short enough.
abbrev pub FitsMessage : Datum → Type 0
FitsMessage (Txt ts) = strings_size ts ≤ 65535
FitsMessage _ = Unit {0}

abbrev pub FitMessages : List Record → Type 0
FitMessages [] = Unit {0}
FitMessages (r ∷ rs) = FitsMessage r.value × FitMessages rs

-- The text is read as these records, whatever origin the reader begins with.
abbrev pub IsReadAs : List ℕ → List Record → Type 0
IsReadAs text rs = (first : List (List ℕ)) → IsName first → read_text first text ≡ Ok rs

-- The text of records is read as these records.
abbrev pub PrintedIsReadBack : Type 0
PrintedIsReadBack = (origin : List (List ℕ)) (rs : List Record) → IsName origin → AreSound rs → IsReadAs (file_text origin rs) rs
