-- The fields of an entry: each is read from the entry's words that are left, and leaves the words behind it.
use Rattle.std.specs.Prelude.{ℕ, cond, nat_eq, Option, Some, None, Result, Ok, Err, List, [], ◌∷◌}
use Rattle.std.specs.Cmp.Lexicographic.{pointwise}
use Rattle.dname.specs.Text.{name_under}
use Rattle.dname.specs.declared.text.NameError.{NameError}
use Rattle.rdata.specs.Data.{Datum, Ipv4, Ns, Cname, Soa, Ptr, Mx, Txt, Ipv6, Srv, Authority, Service}
pub use Rattle.rdata.specs.Types.{same_word, find_type, served_types}
unfoldable pub use Rattle.rdata.specs.Types.{type_named}
use Rattle.rdata.specs.declared.rtype.RType.{RType}
use Rattle.rdata.specs.declared.rtype.RType.TheVariants as rtype
use Rattle.master_lexer.specs.Lexemes.{Word, plain, quoted, broken}
use Rattle.masterfile.specs.declared.faults.FileKind.{FileKind}
use Rattle.masterfile.specs.declared.faults.FileKind.TheVariants.{BadData, BadName, OpenText}
use Rattle.masterfile.specs.Faults.{◌>>=◌}
use Rattle.masterfile.specs.Numbers.{number_of}
use Rattle.masterfile.specs.Addresses.{ipv4_of, ipv6_of}
use Rattle.masterfile.specs.Strings.{take_strings}

-- The next word, where it has no quotes.
abbrev pub plain_word : List Word → Result (List ℕ × List Word) FileKind
plain_word [] = Err BadData
plain_word (plain w ∷ ws) = Ok (w, ws)
plain_word (quoted w ∷ ws) = Err BadData
plain_word (broken ∷ ws) = Err OpenText

-- A field of one word without quotes.
abbrev pub take_by : {X : Type 0} → (List ℕ → Result X FileKind) → List Word → Result (X × List Word) FileKind
take_by {X} read ws = plain_word ws >>= λ (w : List ℕ × List Word). read w.0 >>= λ (x : X). Ok (x, w.1)

abbrev pub or_bad_name : Result (List (List ℕ)) NameError → Result (List (List ℕ)) FileKind
or_bad_name (Ok n) = Ok n
or_bad_name (Err e) = Err BadName

-- The name of a word: `@` is the origin, and a name that no dot ends is relative to it.
abbrev pub name_of : List (List ℕ) → List ℕ → Result (List (List ℕ)) FileKind
name_of origin w = cond (pointwise nat_eq w (64 ∷ [])) (Ok origin) (or_bad_name (name_under origin w))

abbrev pub take_name : List (List ℕ) → List Word → Result (List (List ℕ) × List Word) FileKind
take_name origin ws = take_by (name_of origin) ws

abbrev pub take_number : ℕ → List Word → Result (ℕ × List Word) FileKind
take_number limit ws = take_by (number_of limit) ws

-- The fault of words that are left over.
abbrev pub left_over : List Word → Option FileKind
left_over [] = None
left_over (plain w ∷ ws) = Some BadData
left_over (quoted w ∷ ws) = Some BadData
left_over (broken ∷ ws) = Some OpenText

abbrev pub unless : {X : Type 0} → Option FileKind → X → Result X FileKind
unless None x = Ok x
unless (Some kind) x = Err kind

-- The end of the entry: a word that is left over is a fault.
abbrev pub take_end : {X : Type 0} → X → List Word → Result X FileKind
take_end x ws = unless (left_over ws) x

-- The greatest numbers of 16 and of 32 bits.
abbrev pub greatest_16 : ℕ
greatest_16 = 65535

abbrev pub greatest_32 : ℕ
greatest_32 = 4294967295

-- The fields of an SOA record: two names and five numbers (RFC 1035, section 3.3.13).
abbrev pub take_authority : List (List ℕ) → List Word → Result (Authority × List Word) FileKind
take_authority origin ws =
    take_name origin ws >>= λ (primary : List (List ℕ) × List Word).
    take_name origin primary.1 >>= λ (mailbox : List (List ℕ) × List Word).
    take_number greatest_32 mailbox.1 >>= λ (serial : ℕ × List Word).
    take_number greatest_32 serial.1 >>= λ (refresh : ℕ × List Word).
    take_number greatest_32 refresh.1 >>= λ (retry : ℕ × List Word).
    take_number greatest_32 retry.1 >>= λ (expire : ℕ × List Word).
    take_number greatest_32 expire.1 >>= λ (minimum : ℕ × List Word).
    Ok (record { primary = primary.0; mailbox = mailbox.0; serial = serial.0; refresh = refresh.0; retry = retry.0; expire = expire.0; minimum = minimum.0 }, minimum.1)

-- The fields of an MX record: preference and exchange (RFC 1035, section 3.3.9).
abbrev pub take_exchange : List (List ℕ) → List Word → Result (Datum × List Word) FileKind
take_exchange origin ws =
    take_number greatest_16 ws >>= λ (preference : ℕ × List Word).
    take_name origin preference.1 >>= λ (exchange : List (List ℕ) × List Word). Ok (Mx preference.0 exchange.0, exchange.1)

-- The fields of an SRV record: priority, weight, port and target (RFC 2782).
abbrev pub take_service : List (List ℕ) → List Word → Result (Service × List Word) FileKind
take_service origin ws =
    take_number greatest_16 ws >>= λ (priority : ℕ × List Word).
    take_number greatest_16 priority.1 >>= λ (weight : ℕ × List Word).
    take_number greatest_16 weight.1 >>= λ (port : ℕ × List Word).
    take_name origin port.1 >>= λ (target : List (List ℕ) × List Word).
    Ok (record { priority = priority.0; weight = weight.0; port = port.0; target = target.0 }, target.1)

-- The data of a record of this type.
abbrev pub take_data : List (List ℕ) → RType → List Word → Result (Datum × List Word) FileKind
take_data origin rtype.A ws = take_by ipv4_of ws >>= λ (a : List ℕ × List Word). Ok (Ipv4 a.0, a.1)
take_data origin rtype.Ns ws = take_name origin ws >>= λ (n : List (List ℕ) × List Word). Ok (Ns n.0, n.1)
take_data origin rtype.Cname ws = take_name origin ws >>= λ (n : List (List ℕ) × List Word). Ok (Cname n.0, n.1)
take_data origin rtype.Soa ws = take_authority origin ws >>= λ (s : Authority × List Word). Ok (Soa s.0, s.1)
take_data origin rtype.Ptr ws = take_name origin ws >>= λ (n : List (List ℕ) × List Word). Ok (Ptr n.0, n.1)
take_data origin rtype.Mx ws = take_exchange origin ws
take_data origin rtype.Txt ws = take_strings ws >>= λ (ts : List (List ℕ)). Ok (Txt ts, [])
take_data origin rtype.Aaaa ws = take_by ipv6_of ws >>= λ (a : List ℕ × List Word). Ok (Ipv6 a.0, a.1)
take_data origin rtype.Srv ws = take_service origin ws >>= λ (s : Service × List Word). Ok (Srv s.0, s.1)
