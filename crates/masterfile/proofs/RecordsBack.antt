-- A printed record is a line of words that say this record in every context.
use Rattle.std.proofs.Common.{◌≡◌, ℕ, ◌^◌, ◌<◌, ◌≤◌, false, Some, None, Ok, List, [], ◌∷◌, ◌++◌, codes, decimal, flat_map, refl, sym, ap, ◌∙◌, append_assoc, arith}
use Rattle.std.proofs.lemmas.List.{append-nil}
use Rattle.std.proofs.lemmas.Fmt.{decimal_nonempty}
use Rattle.dname.specs.Labels.{IsName}
use Rattle.dname.specs.Text.{name_text}
use Rattle.rdata.specs.Data.{Authority, Service, Datum, Ipv4, Ns, Cname, Soa, Ptr, Mx, Txt, Ipv6, Srv, kind_of}
use Rattle.rdata.specs.Records.{Record, greatest_ttl}
use Rattle.rdata.specs.Text.{ipv4_text, ipv6_text, spaced_name, spaced_number, spaced_string, data_text}
use Rattle.rdata.specs.Types.{type_word}
use Rattle.rdata.specs.declared.rtype.RType.{RType}
use Rattle.rdata.specs.declared.rtype.RType.TheVariants as rtype
use Rattle.master_lexer.specs.Lexemes.{Word, plain}
use Rattle.master_lexer.specs.Entries.{margin}
use Rattle.master_lexer.specs.Lines.{written, line_of, IsWritable, AreWritable}
use Rattle.masterfile.specs.Fields.{type_named, take_data, greatest_16, greatest_32}
use Rattle.masterfile.specs.Entries.{Context, take_head, entry_in}
use Rattle.masterfile.specs.Printed.{line_text}
use Rattle.masterfile.specs.ReadBack.{IsAuthority, IsService, IsSoundData, IsSound}
use Rattle.masterfile.proofs.PlainWords.{five_joined, eight_joined}
use Rattle.masterfile.proofs.NumbersBack.{decimal_digits, decimal_number, digits_plain, number_back}
use Rattle.masterfile.proofs.NamesBack.{name_back, name_plain, name_some, name_no_directive}
use Rattle.masterfile.proofs.AddressesBack.{ipv4_is_read, ipv6_is_read}
use Rattle.masterfile.proofs.StringsBack.{string_words, strings_back, strings_writable}

-- ---- the words of a record

abbrev name_word : List (List ℕ) → Word
name_word n = plain (name_text n)

abbrev number_word : ℕ → Word
number_word n = plain (decimal n)

abbrev data_words : Datum → List Word
data_words (Ipv4 a) = plain (ipv4_text a) ∷ []
data_words (Ns n) = name_word n ∷ []
data_words (Cname n) = name_word n ∷ []
data_words (Soa s) =
    name_word s.primary ∷ name_word s.mailbox ∷ number_word s.serial ∷ number_word s.refresh ∷ number_word s.retry ∷ number_word s.expire ∷ number_word s.minimum ∷ []
data_words (Ptr n) = name_word n ∷ []
data_words (Mx p n) = number_word p ∷ name_word n ∷ []
data_words (Txt ts) = string_words ts
data_words (Ipv6 a) = plain (ipv6_text a) ∷ []
data_words (Srv s) = number_word s.priority ∷ number_word s.weight ∷ number_word s.port ∷ name_word s.target ∷ []

abbrev pub record_words : Record → List Word
record_words r = name_word r.owner ∷ number_word r.ttl ∷ plain (codes "IN") ∷ plain (type_word (kind_of r.value)) ∷ data_words r.value

-- ---- its text is the line of these words

abbrev spaced : List Word → List ℕ
spaced [] = []
spaced (w ∷ ws) = 32 ∷ (written w ++ spaced ws)

pub line_is : (w : Word) (ws : List Word) → line_of (w ∷ ws) ≡ written w ++ (spaced ws ++ 10 ∷ [])
line_is w [] = refl
line_is w (v ∷ ws) =
    ap (λ (t : List ℕ). written w ++ 32 ∷ t) (line_is v ws ∙ sym (append_assoc (written v) (spaced ws) (10 ∷ [])))

spaced_strings : (ts : List (List ℕ)) → flat_map spaced_string ts ≡ spaced (string_words ts)
spaced_strings [] = refl
spaced_strings (t ∷ ts) = ap (λ (x : List ℕ). spaced_string t ++ x) (spaced_strings ts)

data_line : (d : Datum) → data_text d ≡ type_word (kind_of d) ++ spaced (data_words d)
data_line (Ipv4 a) = rw (append-nil (ipv4_text a)) refl
data_line (Ns n) = rw (append-nil (name_text n)) refl
data_line (Cname n) = rw (append-nil (name_text n)) refl
data_line (Soa s) =
    eight_joined (codes "SOA") (spaced_name s.primary) (spaced_name s.mailbox) (spaced_number s.serial) (spaced_number s.refresh) (spaced_number s.retry) (spaced_number s.expire)
    (spaced_number s.minimum)
data_line (Ptr n) = rw (append-nil (name_text n)) refl
data_line (Mx p n) = rw (append-nil (name_text n)) refl
data_line (Txt ts) = ap (λ (x : List ℕ). codes "TXT" ++ x) (spaced_strings ts)
data_line (Ipv6 a) = rw (append-nil (ipv6_text a)) refl
data_line (Srv s) = five_joined (codes "SRV") (spaced_number s.priority) (spaced_number s.weight) (spaced_number s.port) (spaced_name s.target)

line_parts : (a t d n : List ℕ) → a ++ (codes " " ++ t ++ codes " IN ") ++ d ++ n ≡ a ++ (32 ∷ (t ++ 32 ∷ 73 ∷ 78 ∷ 32 ∷ d) ++ n)
line_parts a t d n = simp append_assoc

pub record_line : (r : Record) → line_text r ≡ line_of (record_words r)
record_line r =
    let ttl : List ℕ = decimal r.ttl in
    line_parts (name_text r.owner) ttl (data_text r.value) (codes "\n")
    ∙ (ap (λ (t : List ℕ). name_text r.owner ++ (32 ∷ (ttl ++ 32 ∷ 73 ∷ 78 ∷ 32 ∷ t) ++ codes "\n")) (data_line r.value)
    ∙ sym (line_is (name_word r.owner) (number_word r.ttl ∷ plain (codes "IN") ∷ plain (type_word (kind_of r.value)) ∷ data_words r.value)))

-- ---- they can be written

name_writable : (n : List (List ℕ)) → IsName n → IsWritable (name_word n)
name_writable n h = (name_some n h, name_plain n h)

number_writable : (n limit : ℕ) → n ≤ limit → limit < 2 ^ 64 → IsWritable (number_word n)
number_writable n limit h k = let fits : n < 2 ^ 64 = omega arith in (decimal_nonempty n fits, digits_plain (decimal n) (decimal_digits n fits))

type_writable : (t : RType) → IsWritable (plain (type_word t))
type_writable rtype.A = (omega arith, refl)
type_writable rtype.Ns = (omega arith, refl)
type_writable rtype.Cname = (omega arith, refl)
type_writable rtype.Soa = (omega arith, refl)
type_writable rtype.Ptr = (omega arith, refl)
type_writable rtype.Mx = (omega arith, refl)
type_writable rtype.Txt = (omega arith, refl)
type_writable rtype.Aaaa = (omega arith, refl)
type_writable rtype.Srv = (omega arith, refl)

data_writable : (d : Datum) → IsSoundData d → AreWritable (data_words d)
data_writable (Ipv4 a) h = let r = ipv4_is_read a h.0 h.1 in ((r.some, r.plain), tt)
data_writable (Ns n) h = (name_writable n h, tt)
data_writable (Cname n) h = (name_writable n h, tt)
data_writable (Soa s) h = (
  name_writable s.primary h.primary,
  (
    name_writable s.mailbox h.mailbox,
    (
      number_writable s.serial greatest_32 h.serial (omega arith),
      (
        number_writable s.refresh greatest_32 h.refresh (omega arith),
        (
          number_writable s.retry greatest_32 h.retry (omega arith),
          (number_writable s.expire greatest_32 h.expire (omega arith), (number_writable s.minimum greatest_32 h.minimum (omega arith), tt)),
        ),
      ),
    ),
  ),
)
data_writable (Ptr n) h = (name_writable n h, tt)
data_writable (Mx p n) h = (number_writable p greatest_16 h.0 (omega arith), (name_writable n h.1, tt))
data_writable (Txt ts) h = strings_writable ts h.1
data_writable (Ipv6 a) h = let r = ipv6_is_read a h.0 h.1 in ((r.some, r.plain), tt)
data_writable (Srv s) h = (
  number_writable s.priority greatest_16 h.priority (omega arith),
  (number_writable s.weight greatest_16 h.weight (omega arith), (number_writable s.port greatest_16 h.port (omega arith), (name_writable s.target h.target, tt))),
)

pub record_writable : (r : Record) → IsSound r → AreWritable (record_words r)
record_writable r h =
    (name_writable r.owner h.owner, (number_writable r.ttl greatest_ttl h.ttl (omega arith), ((omega arith, refl), (type_writable (kind_of r.value), data_writable r.value h.value))))

-- ---- they say the record

authority_back : (origin : List (List ℕ)) (s : Authority) → IsName origin → IsAuthority s → take_data origin rtype.Soa (data_words (Soa s)) ≡ Ok (Soa s, [])
authority_back origin s ho h =
    rw (
      name_back origin s.primary ho h.primary,
      name_back origin s.mailbox ho h.mailbox,
      number_back greatest_32 s.serial h.serial (omega arith),
      number_back greatest_32 s.refresh h.refresh (omega arith),
      number_back greatest_32 s.retry h.retry (omega arith),
      number_back greatest_32 s.expire h.expire (omega arith),
      number_back greatest_32 s.minimum h.minimum (omega arith),
    ) refl

service_back : (origin : List (List ℕ)) (s : Service) → IsName origin → IsService s → take_data origin rtype.Srv (data_words (Srv s)) ≡ Ok (Srv s, [])
service_back origin s ho h =
    rw (
      number_back greatest_16 s.priority h.priority (omega arith),
      number_back greatest_16 s.weight h.weight (omega arith),
      number_back greatest_16 s.port h.port (omega arith),
      name_back origin s.target ho h.target,
    ) refl

data_back : (origin : List (List ℕ)) (d : Datum) → IsName origin → IsSoundData d → take_data origin (kind_of d) (data_words d) ≡ Ok (d, [])
data_back origin (Ipv4 a) ho h = rw ((ipv4_is_read a h.0 h.1).back) refl
data_back origin (Ns n) ho h = rw (name_back origin n ho h) refl
data_back origin (Cname n) ho h = rw (name_back origin n ho h) refl
data_back origin (Soa s) ho h = authority_back origin s ho h
data_back origin (Ptr n) ho h = rw (name_back origin n ho h) refl
data_back origin (Mx p n) ho h = rw (number_back greatest_16 p h.0 (omega arith), name_back origin n ho h.1) refl
data_back origin (Txt ts) ho h = rw (strings_back ts h.0 h.1 h.2) refl
data_back origin (Ipv6 a) ho h = rw ((ipv6_is_read a h.0 h.1).back) refl
data_back origin (Srv s) ho h = service_back origin s ho h

head_behind_ttl : (ttl : ℕ) (t : RType) (rest : List Word) → take_head (Some ttl) false (plain (codes "IN") ∷ plain (type_word t) ∷ rest) ≡ Ok (record { ttl = Some ttl; kind = t; rest = rest })
unfolding type_named
head_behind_ttl ttl rtype.A rest = refl
head_behind_ttl ttl rtype.Ns rest = refl
head_behind_ttl ttl rtype.Cname rest = refl
head_behind_ttl ttl rtype.Soa rest = refl
head_behind_ttl ttl rtype.Ptr rest = refl
head_behind_ttl ttl rtype.Mx rest = refl
head_behind_ttl ttl rtype.Txt rest = refl
head_behind_ttl ttl rtype.Aaaa rest = refl
head_behind_ttl ttl rtype.Srv rest = refl

head_back : (ttl : ℕ) (t : RType) (rest : List Word) → ttl ≤ greatest_ttl
    → take_head None false (number_word ttl ∷ plain (codes "IN") ∷ plain (type_word t) ∷ rest) ≡ Ok (record { ttl = Some ttl; kind = t; rest = rest })
head_back ttl t rest h = rw (number_back greatest_ttl ttl h (omega arith), decimal_number ttl (omega arith)) (head_behind_ttl ttl t rest)

abbrev pub next_context : Context → Record → Context
next_context c r = record c { owner = Some r.owner; stated = Some r.ttl }

pub record_back : (c : Context) (r : Record) → IsName c.origin → IsSound r → entry_in c margin (record_words r) ≡ Ok (Some r, next_context c r)
record_back c r ho h =
    rw (
      name_no_directive r.owner h.owner,
      name_back c.origin r.owner ho h.owner,
      head_back r.ttl (kind_of r.value) (data_words r.value) h.ttl,
      data_back c.origin r.value ho h.value,
    ) refl
