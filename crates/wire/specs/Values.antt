-- RDATA read (RFC 1035, sections 3.3 and 3.4; RFC 3596, section 2.2; RFC 2782): from a place to the end that
-- RDLENGTH gives.
use Rattle.std.specs.Prelude.{ℕ, zero, suc, ◌+◌, ◌-◌, nat_eq, nat_le, nat_lt, if◌then◌else◌, Result, Ok, Err, List, [], ◌∷◌, slice_index, slice_range}
use Rattle.rdata.specs.Data.{Datum, Ipv4, Ns, Cname, Soa, Ptr, Mx, Txt, Ipv6, Srv}
use Rattle.rdata.specs.declared.rtype.RType.{RType}
use Rattle.rdata.specs.declared.rtype.RType.TheVariants as served
use Rattle.wire.specs.declared.error.WireError.{WireError}
use Rattle.wire.specs.declared.error.WireError.TheVariants.{BadRdataLength}
use Rattle.wire.specs.Numbers.{two_at, four_at}
use Rattle.wire.specs.Parts.{rdata_faults, name_at, full_name_at}
use Rattle.wire.specs.Results.{and_then}

-- This many bytes of RDATA, and their end.
abbrev pub bytes_within : ℕ → List ℕ → ℕ → ℕ → Result (List ℕ × ℕ) WireError
bytes_within n bytes at end = if nat_lt end (at + n) then Err BadRdataLength else Ok (slice_range bytes at (at + n), at + n)

abbrev pub two_within : List ℕ → ℕ → ℕ → Result (ℕ × ℕ) WireError
two_within bytes at end = if nat_lt end (at + 2) then Err BadRdataLength else Ok (two_at bytes at, at + 2)

-- The name at a place of RDATA, and its end.
abbrev pub name_within : List ℕ → ℕ → ℕ → Result (List (List ℕ) × ℕ) WireError
name_within bytes at end = name_at bytes rdata_faults end at

-- The data, if they end where RDATA end.
abbrev pub whole : ℕ → Datum × ℕ → Result Datum WireError
whole end (value, past) = if nat_eq past end then Ok value else Err BadRdataLength

abbrev pub as_ipv4 : List ℕ × ℕ → Result (Datum × ℕ) WireError
as_ipv4 (address, past) = Ok (Ipv4 address, past)

abbrev pub as_ipv6 : List ℕ × ℕ → Result (Datum × ℕ) WireError
as_ipv6 (address, past) = Ok (Ipv6 address, past)

abbrev pub as_ns : List (List ℕ) × ℕ → Result (Datum × ℕ) WireError
as_ns (name, past) = Ok (Ns name, past)

abbrev pub as_cname : List (List ℕ) × ℕ → Result (Datum × ℕ) WireError
as_cname (name, past) = Ok (Cname name, past)

abbrev pub as_ptr : List (List ℕ) × ℕ → Result (Datum × ℕ) WireError
as_ptr (name, past) = Ok (Ptr name, past)

abbrev pub as_mx : ℕ → List (List ℕ) × ℕ → Result (Datum × ℕ) WireError
as_mx preference (name, past) = Ok (Mx preference name, past)

abbrev pub mx_behind : List ℕ → ℕ → ℕ × ℕ → Result (Datum × ℕ) WireError
mx_behind bytes end (preference, at) = and_then (name_within bytes at end) (as_mx preference)

-- The five numbers of an SOA.
abbrev pub soa_numbers : List ℕ → ℕ → List (List ℕ) → List (List ℕ) × ℕ → Result (Datum × ℕ) WireError
soa_numbers bytes end primary (mailbox, at) =
    if nat_lt end (at + 20) then Err BadRdataLength
    else Ok (
      Soa (record {
        primary = primary;
        mailbox = mailbox;
        serial = four_at bytes at;
        refresh = four_at bytes (at + 4);
        retry = four_at bytes (at + 8);
        expire = four_at bytes (at + 12);
        minimum = four_at bytes (at + 16);
      }),
      at + 20,
    )

abbrev pub soa_behind : List ℕ → ℕ → List (List ℕ) × ℕ → Result (Datum × ℕ) WireError
soa_behind bytes end (primary, at) = and_then (name_within bytes at end) (soa_numbers bytes end primary)

abbrev pub as_srv : ℕ → ℕ → ℕ → List (List ℕ) × ℕ → Result (Datum × ℕ) WireError
as_srv priority weight port (target, past) = Ok (Srv (record { priority = priority; weight = weight; port = port; target = target }), past)

-- The three numbers of an SRV, and its target in full.
abbrev pub srv_within : List ℕ → ℕ → ℕ → Result (Datum × ℕ) WireError
srv_within bytes at end =
    if nat_lt end (at + 6) then Err BadRdataLength
    else and_then (full_name_at bytes rdata_faults end (at + 6)) (as_srv (two_at bytes at) (two_at bytes (at + 2)) (two_at bytes (at + 4)))

-- A character-string.
abbrev pub string_at : List ℕ → ℕ → ℕ → Result (List ℕ × ℕ) WireError
string_at bytes at end =
    if nat_le end at then Err BadRdataLength
    else (if nat_lt end (at + 1 + slice_index bytes at) then Err BadRdataLength
    else Ok (slice_range bytes (at + 1) (at + 1 + slice_index bytes at), at + 1 + slice_index bytes at))

abbrev pub with_string : List ℕ → List (List ℕ) → Result (List (List ℕ)) WireError
with_string string strings = Ok (string ∷ strings)

-- The character-strings up to the end; each takes a byte at least.
abbrev pub strings_from : ℕ → List ℕ → ℕ → ℕ → Result (List (List ℕ)) WireError
strings_from zero bytes at end = Ok []
strings_from (suc fuel) bytes at end =
    if nat_lt at end then and_then (string_at bytes at end) (λ s. and_then (strings_from fuel bytes s.1 end) (with_string s.0)) else Ok []

abbrev pub as_txt : ℕ → List (List ℕ) → Result (Datum × ℕ) WireError
as_txt end strings = Ok (Txt strings, end)

-- One or more strings, up to the end.
abbrev pub txt_behind : List ℕ → ℕ → List ℕ × ℕ → Result (List (List ℕ)) WireError
txt_behind bytes end (first, at) = and_then (strings_from (end - at) bytes at end) (with_string first)

abbrev pub texts_at : List ℕ → ℕ → ℕ → Result (List (List ℕ)) WireError
texts_at bytes at end = and_then (string_at bytes at end) (txt_behind bytes end)

-- The data of a type at a place, and their end.
abbrev pub form_at : RType → List ℕ → ℕ → ℕ → Result (Datum × ℕ) WireError
form_at served.A bytes at end = and_then (bytes_within 4 bytes at end) as_ipv4
form_at served.Ns bytes at end = and_then (name_within bytes at end) as_ns
form_at served.Cname bytes at end = and_then (name_within bytes at end) as_cname
form_at served.Soa bytes at end = and_then (name_within bytes at end) (soa_behind bytes end)
form_at served.Ptr bytes at end = and_then (name_within bytes at end) as_ptr
form_at served.Mx bytes at end = and_then (two_within bytes at end) (mx_behind bytes end)
form_at served.Txt bytes at end = and_then (texts_at bytes at end) (as_txt end)
form_at served.Aaaa bytes at end = and_then (bytes_within 16 bytes at end) as_ipv6
form_at served.Srv bytes at end = srv_within bytes at end

-- The data of a type that RDATA have.
unfoldable pub value_at : RType → List ℕ → ℕ → ℕ → Result Datum WireError
value_at kind bytes at end = and_then (form_at kind bytes at end) (whole end)
