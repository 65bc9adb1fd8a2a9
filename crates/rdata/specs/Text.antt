-- The data of a record in text, as a master file has them (RFC 1035, sections 3.3 and 5.1; AAAA: RFC 4291,
-- section 2.2, without `::`; SRV: RFC 2782).
use Rattle.std.specs.Prelude.{ℕ, ◌+◌, ◌*◌, false, ◌&&◌, ◌||◌, cond, nat_eq, nat_le, List, [], ◌∷◌, ◌++◌, slice_index, flat_map, codes, decimal}
use Rattle.std.specs.Fmt.{digits}
use Rattle.dname.specs.Text.{name_text, number_text}
use Rattle.rdata.specs.Records.{Record}
use Rattle.rdata.specs.Data.{Authority, Service, Datum, Ipv4, Ns, Cname, Soa, Ptr, Mx, Txt, Ipv6, Srv}

-- Four numbers parted by dots.
abbrev pub ipv4_text : List ℕ → List ℕ
ipv4_text a =
    decimal (slice_index a 0) ++ codes "." ++ decimal (slice_index a 1) ++ codes "." ++ decimal (slice_index a 2) ++ codes "."
    ++ decimal (slice_index a 3)

-- A group of an IPv6 address: two bytes as a number of base sixteen, without zeros in front.
abbrev pub group_text : ℕ → ℕ → List ℕ
group_text high low = digits 16 false (256 * high + low)

-- A further group, behind its colon.
abbrev pub next_group_text : ℕ → ℕ → List ℕ
next_group_text high low = codes ":" ++ group_text high low

-- Eight groups parted by colons.
abbrev pub ipv6_text : List ℕ → List ℕ
ipv6_text a =
    group_text (slice_index a 0) (slice_index a 1)
    ++ next_group_text (slice_index a 2) (slice_index a 3)
    ++ next_group_text (slice_index a 4) (slice_index a 5)
    ++ next_group_text (slice_index a 6) (slice_index a 7)
    ++ next_group_text (slice_index a 8) (slice_index a 9)
    ++ next_group_text (slice_index a 10) (slice_index a 11)
    ++ next_group_text (slice_index a 12) (slice_index a 13)
    ++ next_group_text (slice_index a 14) (slice_index a 15)

-- A byte of a quoted string: a backslash before `"` and `\`, three digits behind one where the byte is not
-- printed.
abbrev pub glyph : ℕ → List ℕ
glyph b =
    cond (nat_eq b 34 || nat_eq b 92) (92 ∷ b ∷ [])
    (cond (nat_le 32 b && nat_le b 126) (b ∷ []) (number_text b))

-- A character-string as text, in quotes.
abbrev pub quoted : List ℕ → List ℕ
quoted string = codes "\"" ++ flat_map glyph string ++ codes "\""

-- A number, or a name, as text behind a space.
abbrev pub spaced_number : ℕ → List ℕ
spaced_number n = codes " " ++ decimal n

abbrev pub spaced_name : List (List ℕ) → List ℕ
spaced_name n = codes " " ++ name_text n

abbrev pub spaced_string : List ℕ → List ℕ
spaced_string string = codes " " ++ quoted string

-- The fields of an SOA record, parted by spaces.
abbrev pub soa_text : Authority → List ℕ
soa_text s =
    name_text s.primary ++ spaced_name s.mailbox ++ spaced_number s.serial ++ spaced_number s.refresh
    ++ spaced_number s.retry ++ spaced_number s.expire ++ spaced_number s.minimum

-- The fields of an SRV record, parted by spaces.
abbrev pub srv_text : Service → List ℕ
srv_text s = decimal s.priority ++ spaced_number s.weight ++ spaced_number s.port ++ spaced_name s.target

-- Type and data, as they stand in a line of a master file.
abbrev pub data_text : Datum → List ℕ
data_text (Ipv4 a) = codes "A " ++ ipv4_text a
data_text (Ns n) = codes "NS" ++ spaced_name n
data_text (Cname n) = codes "CNAME" ++ spaced_name n
data_text (Soa s) = codes "SOA " ++ soa_text s
data_text (Ptr n) = codes "PTR" ++ spaced_name n
data_text (Mx p n) = codes "MX" ++ spaced_number p ++ spaced_name n
data_text (Txt ts) = codes "TXT" ++ flat_map spaced_string ts
data_text (Ipv6 a) = codes "AAAA " ++ ipv6_text a
data_text (Srv s) = codes "SRV " ++ srv_text s

-- A record, as it stands in a line of a master file.
abbrev pub record_text : Record → List ℕ
record_text r = name_text r.owner ++ (codes " " ++ decimal r.ttl ++ codes " IN ") ++ data_text r.value
