-- The meaning of a master file, by cases (RFC 1035, section 5.1; `$TTL`: RFC 2308, section 4).
use Rattle.std.specs.Prelude.{◌≡◌, ℕ, ◌+◌, ◌<◌, ◌≤◌, true, false, Option, Some, None, ◌↔◌, Ok, List, [], ◌∷◌, length, codes}
use Rattle.rdata.specs.Data.{Datum, Ipv4, Ns, Cname, Soa, Ptr, Mx, Txt, Ipv6, Srv, Authority, Service}
use Rattle.rdata.specs.Records.{Record, greatest_ttl}
use Rattle.rdata.specs.declared.rtype.RType.{RType}
use Rattle.rdata.specs.declared.rtype.RType.TheVariants as rtype
use Rattle.master_lexer.specs.Lexemes.{Word, plain}
use Rattle.master_lexer.specs.Entries.{Entry, Lead, margin, blank, shifted}
use Rattle.master_lexer.specs.Parts.{IsPartedFrom}
use Rattle.masterfile.specs.Numbers.{number_of}
use Rattle.std.specs.Net.Addr.{octets_of}
use Rattle.masterfile.specs.Addresses.{ipv4_of}
use Rattle.masterfile.specs.Ipv6Text.{IsAddressText}
use Rattle.masterfile.specs.Strings.{string_word}
use Rattle.masterfile.specs.Fields.{same_word, name_of, type_named, greatest_16, greatest_32}
use Rattle.masterfile.specs.Entries.{Context, is_internet, first_some, begins_directive}
use Rattle.masterfile.specs.Files.{start, read_text}

-- Each word writes one string.
abbrev pub AreStrings : List Word → List (List ℕ) → Type 0
AreStrings [] [] = Unit {0}
AreStrings [] (t ∷ ts) = ⊥
AreStrings (w ∷ ws) [] = ⊥
AreStrings (w ∷ ws) (t ∷ ts) = (string_word w ≡ Ok t) × AreStrings ws ts

-- The size of strings in a message: a length byte and the bytes of each.
abbrev pub strings_size : List (List ℕ) → ℕ
strings_size [] = 0
strings_size (t ∷ ts) = (1 + length t) + strings_size ts

-- The words of a name: one.
abbrev pub IsNameData : List (List ℕ) → List Word → List (List ℕ) → Type 0
IsNameData origin ws n = (w : List ℕ) × (ws ≡ plain w ∷ []) × (name_of origin w ≡ Ok n)

-- The words of an SOA record's data: two names and five numbers (RFC 1035, section 3.3.13).
pub record IsAuthorityData (origin : List (List ℕ)) (ws : List Word) (s : Authority) : Type 0 where
  pub primary : List ℕ
  pub mailbox : List ℕ
  pub serial : List ℕ
  pub refresh : List ℕ
  pub retry : List ℕ
  pub expire : List ℕ
  pub minimum : List ℕ
  pub spelled : ws ≡ plain primary ∷ plain mailbox ∷ plain serial ∷ plain refresh ∷ plain retry ∷ plain expire ∷ plain minimum ∷ []
  pub names : (name_of origin primary ≡ Ok s.primary) × (name_of origin mailbox ≡ Ok s.mailbox)
  pub numbers : (number_of greatest_32 serial ≡ Ok s.serial) × (number_of greatest_32 refresh ≡ Ok s.refresh) × (number_of greatest_32 retry ≡ Ok s.retry)
      × (number_of greatest_32 expire ≡ Ok s.expire) × (number_of greatest_32 minimum ≡ Ok s.minimum)

-- The words of an SRV record's data: three numbers and a name (RFC 2782).
pub record IsServiceData (origin : List (List ℕ)) (ws : List Word) (s : Service) : Type 0 where
  pub priority : List ℕ
  pub weight : List ℕ
  pub port : List ℕ
  pub target : List ℕ
  pub spelled : ws ≡ plain priority ∷ plain weight ∷ plain port ∷ plain target ∷ []
  pub numbers : (number_of greatest_16 priority ≡ Ok s.priority) × (number_of greatest_16 weight ≡ Ok s.weight) × (number_of greatest_16 port ≡ Ok s.port)
  pub host : name_of origin target ≡ Ok s.target

-- The words of the data of a type.
abbrev pub IsData : List (List ℕ) → RType → List Word → Datum → Type 0
IsData origin rtype.A ws d = (w : List ℕ) × (a : List ℕ) × (ws ≡ plain w ∷ []) × (ipv4_of w ≡ Ok a) × (d ≡ Ipv4 a)
IsData origin rtype.Ns ws d = (n : List (List ℕ)) × IsNameData origin ws n × (d ≡ Ns n)
IsData origin rtype.Cname ws d = (n : List (List ℕ)) × IsNameData origin ws n × (d ≡ Cname n)
IsData origin rtype.Soa ws d = (s : Authority) × IsAuthorityData origin ws s × (d ≡ Soa s)
IsData origin rtype.Ptr ws d = (n : List (List ℕ)) × IsNameData origin ws n × (d ≡ Ptr n)
IsData origin rtype.Mx ws d = (v w : List ℕ) × (p : ℕ) × (n : List (List ℕ)) × (ws ≡ plain v ∷ plain w ∷ []) × (number_of greatest_16 v ≡ Ok p) × (name_of origin w ≡ Ok n) × (d ≡ Mx p n)
IsData origin rtype.Txt ws d = (ts : List (List ℕ)) × (0 < length ws) × AreStrings ws ts × (strings_size ts ≤ 65535) × (d ≡ Txt ts)
IsData origin rtype.Aaaa ws d = (w : List ℕ) × (groups : List ℕ) × (ws ≡ plain w ∷ []) × IsAddressText w groups × (d ≡ Ipv6 (octets_of groups))
IsData origin rtype.Srv ws d = (s : Service) × IsServiceData origin ws s × (d ≡ Srv s)

-- Digits are a TTL, `IN` is the class, and another word is a type.
abbrev pub IsTtlWord : List ℕ → ℕ → Type 0
IsTtlWord w n = number_of greatest_ttl w ≡ Ok n

abbrev pub IsClassWord : List ℕ → Type 0
IsClassWord w = is_internet w ≡ true

abbrev pub IsTypeWord : List ℕ → RType → Type 0
IsTypeWord w t = type_named w ≡ Some t

-- The words before the data: `[TTL] [CLASS] TYPE` or `[CLASS] [TTL] TYPE`; and the words of the data.
pub data HasHead : List Word → Option ℕ → RType → List Word → Type 0 where
  type_alone : (ws : List Word) (ttl : Option ℕ) (kind : RType) (rest : List Word) (t : List ℕ)
      → ws ≡ plain t ∷ rest → ttl ≡ None → IsTypeWord t kind → HasHead ws ttl kind rest
  class_first : (ws : List Word) (ttl : Option ℕ) (kind : RType) (rest : List Word) (c t : List ℕ)
      → ws ≡ plain c ∷ plain t ∷ rest → ttl ≡ None → IsClassWord c → IsTypeWord t kind → HasHead ws ttl kind rest
  ttl_first : (ws : List Word) (ttl : Option ℕ) (kind : RType) (rest : List Word) (v t : List ℕ) (n : ℕ)
      → ws ≡ plain v ∷ plain t ∷ rest → ttl ≡ Some n → IsTtlWord v n → IsTypeWord t kind → HasHead ws ttl kind rest
  ttl_and_class : (ws : List Word) (ttl : Option ℕ) (kind : RType) (rest : List Word) (v c t : List ℕ) (n : ℕ)
      → ws ≡ plain v ∷ plain c ∷ plain t ∷ rest → ttl ≡ Some n → IsTtlWord v n → IsClassWord c → IsTypeWord t kind → HasHead ws ttl kind rest
  class_and_ttl : (ws : List Word) (ttl : Option ℕ) (kind : RType) (rest : List Word) (c v t : List ℕ) (n : ℕ)
      → ws ≡ plain c ∷ plain v ∷ plain t ∷ rest → ttl ≡ Some n → IsClassWord c → IsTtlWord v n → IsTypeWord t kind → HasHead ws ttl kind rest

-- The owner of an entry, and the words behind it: the owner of the entry before where the line begins with a space or
-- tab.
abbrev pub IsOwner : Context → Lead → List Word → List (List ℕ) → List Word → Type 0
IsOwner c blank ws owner behind = (c.owner ≡ Some owner) × (behind ≡ ws)
IsOwner c shifted ws owner behind = (w : List ℕ) × (ws ≡ plain w ∷ behind) × (name_of c.origin w ≡ Ok owner)
IsOwner c margin ws owner behind = (w : List ℕ) × (ws ≡ plain w ∷ behind) × (begins_directive w ≡ false) × (name_of c.origin w ≡ Ok owner)

-- An entry with a record, and the state that it leaves to the later entries.
pub record IsRecordEntry (c : Context) (lead : Lead) (ws : List Word) (r : Record) (next : Context) : Type 0 where
  pub behind : List Word
  pub stated : Option ℕ
  pub kind : RType
  pub rest : List Word
  pub owner : IsOwner c lead ws r.owner behind
  pub head : HasHead behind stated kind rest
  -- its own TTL, else that of `$TTL`, else the last one that a record stated
  pub time : first_some stated (first_some c.standing c.stated) ≡ Some r.ttl
  pub value : IsData c.origin kind rest r.value
  pub after : next ≡ record c { owner = Some r.owner; stated = first_some stated c.stated }

-- An entry with its record, or with none, and the state that it leaves to the later ones.
pub data Says : Context → Lead → List Word → Option Record → Context → Type 0 where
  says_nothing : (c : Context) (lead : Lead) (ws : List Word) (r : Option Record) (next : Context) → ws ≡ [] → r ≡ None → next ≡ c → Says c lead ws r next
  sets_origin : (c : Context) (lead : Lead) (ws : List Word) (r : Option Record) (next : Context) (d w : List ℕ) (n : List (List ℕ)) → lead ≡ margin
      → ws ≡ plain d ∷ plain w ∷ [] → same_word d (codes "$ORIGIN") ≡ true → name_of c.origin w ≡ Ok n
      → r ≡ None → next ≡ record c { origin = n } → Says c lead ws r next
  sets_ttl : (c : Context) (lead : Lead) (ws : List Word) (r : Option Record) (next : Context) (d w : List ℕ) (n : ℕ) → lead ≡ margin
      → ws ≡ plain d ∷ plain w ∷ [] → same_word d (codes "$TTL") ≡ true → number_of greatest_ttl w ≡ Ok n
      → r ≡ None → next ≡ record c { standing = Some n } → Says c lead ws r next
  states_record : (c : Context) (lead : Lead) (ws : List Word) (r : Option Record) (next : Context) (stated : Record) → r ≡ Some stated
      → IsRecordEntry c lead ws stated next → Says c lead ws r next

-- The records of entries, in order.
pub data Say : Context → List Entry → List Record → Type 0 where
  nothing_left : (c : Context) (es : List Entry) (rs : List Record) → es ≡ [] → rs ≡ [] → Say c es rs
  says_none : (c : Context) (es : List Entry) (rs : List Record) (e : Entry) (later : List Entry) (next : Context) → es ≡ e ∷ later
      → Says c e.lead e.words None next → Say next later rs → Say c es rs
  says_one : (c : Context) (es : List Entry) (rs : List Record) (e : Entry) (later : List Entry) (next : Context) (r : Record) (found : List Record) → es ≡ e ∷ later
      → rs ≡ r ∷ found → Says c e.lead e.words (Some r) next → Say next later found → Say c es rs

-- The text has these records.
abbrev pub IsMasterText : List (List ℕ) → List ℕ → List Record → Type 0
IsMasterText origin text records = (es : List Entry) × IsPartedFrom 1 text es × Say (start origin) es records

-- A text has the records that are read of it, and the other way round.
abbrev pub ReadsBothWays : Type 0
ReadsBothWays = (origin : List (List ℕ)) (text : List ℕ) (records : List Record) → IsMasterText origin text records ↔ (read_text origin text ≡ Ok records)
