-- Addresses in a master file (RFC 1035, section 3.4.1; RFC 4291, section 2.2).
use Rattle.std.specs.Prelude.{◌≡◌, ℕ, ◌==◌, Bool, false, ◌&&◌, ◌||◌, not, cond, Result, Ok, Err, Option, Some, None, List, [], ◌∷◌, length}
use Rattle.std.specs.Borrow.{Bor}
use Rattle.std.specs.Net.Addr.{octets_of}
use Rattle.std.specs.Net.Reader.{read_ipv6, whole_value}
use Rattle.masterfile.specs.declared.faults.FileKind.{FileKind}
use Rattle.masterfile.specs.declared.faults.FileKind.TheVariants.{BadData}
use Rattle.masterfile.specs.Faults.{◌>>=◌}
use Rattle.decimal.specs.Digits.{value_from}
use Rattle.masterfile.specs.Numbers.{is_number, within}

abbrev pub onto_first : ℕ → List (List ℕ) → List (List ℕ)
onto_first c [] = (c ∷ []) ∷ []
onto_first c (f ∷ fs) = (c ∷ f) ∷ fs

-- The fields between dots.
abbrev pub fields : List ℕ → List (List ℕ)
fields [] = [] ∷ []
fields (c ∷ cs) = cond (c == 46) ([] ∷ fields cs) (onto_first c (fields cs))

-- A number without a zero in front.
abbrev pub is_decimal : List ℕ → Bool
is_decimal [] = false
is_decimal (c ∷ []) = is_number (c ∷ [])
is_decimal (c ∷ d ∷ cs) = not (c == 48) && is_number (c ∷ d ∷ cs)

abbrev pub octet : List ℕ → Result ℕ FileKind
octet f = cond (is_decimal f) (within 255 (value_from 0 f)) (Err BadData)

abbrev pub after_octet : ℕ → Result (List ℕ) FileKind → Result (List ℕ) FileKind
after_octet n ns = ns >>= λ (found : List ℕ). Ok (n ∷ found)

abbrev pub octets : List (List ℕ) → Result (List ℕ) FileKind
octets [] = Ok []
octets (f ∷ fs) = octet f >>= λ (n : ℕ). after_octet n (octets fs)

-- The numbers behind a field's dot, if there is one.
abbrev pub octets_after : Option (Bor (List ℕ)) → Result (List ℕ) FileKind
octets_after None = Ok []
octets_after (Some rest) = octets (fields rest.now)

abbrev pub IsFirstField : List ℕ → List ℕ → Option (Bor (List ℕ)) → Type 0
IsFirstField w f None = fields w ≡ f ∷ []
IsFirstField w f (Some rest) = fields w ≡ f ∷ fields rest.now

-- The fault of fields behind the fourth one: a fault of their own comes first.
abbrev pub surplus_kind : Result (List ℕ) FileKind → FileKind
surplus_kind (Ok ns) = BadData
surplus_kind (Err e) = e

-- Four numbers up to 255 without zeros in front, parted by dots. They are read from the left, each one's form before
-- its range; how many there are counts last.
abbrev pub ipv4_of : List ℕ → Result (List ℕ) FileKind
ipv4_of w = octets (fields w) >>= λ (ns : List ℕ). cond (length ns == 4) (Ok ns) (Err BadData)

abbrev pub has_dot : List ℕ → Bool
has_dot [] = false
has_dot (c ∷ cs) = c == 46 || has_dot cs

abbrev pub segments_read : Option (List ℕ) → Result (List ℕ) FileKind
segments_read None = Err BadData
segments_read (Some segments) = Ok (octets_of segments)

-- The address that a word writes, as the library reads it, without an IPv4 address at the end.
abbrev pub ipv6_of : List ℕ → Result (List ℕ) FileKind
ipv6_of w = cond (has_dot w) (Err BadData) (segments_read (whole_value (read_ipv6 w)))
