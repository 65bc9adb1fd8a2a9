-- What a word says, and the next word of a line.
use Rattle.std.specs.Prelude.{ℕ, ◌&&◌, cond, nat_le, Result, Ok, Err, Option, Some, None, List, [], ◌∷◌}
use Rattle.std.specs.Net.Reader.{read_ipv4, whole_value}
use Rattle.decimal.specs.Digits.{are_digits, value_from}
use Rattle.hex.specs.Hex.{decode_of}
use Rattle.hex.specs.declared.error.FromHexError.{FromHexError}
use Rattle.rdata.specs.declared.rtype.RType.{RType}
use Rattle.rdata.specs.Types.{type_named}
use Rattle.dname.specs.Labels.{Name}
use Rattle.dname.specs.declared.text.NameError.{NameError}
use Rattle.dname.specs.Text.{name_of_text}
use Rattle.text_lines.specs.declared.fault.LineKind.{LineKind}
use Rattle.text_lines.specs.declared.fault.LineKind.TheVariants.{BadNumber, BadType, WordCount, BadHex, BadAddress}
use Rattle.text_lines.specs.Faults.{kind_of_name, ◌>>=◌}

-- A word of digits, whose number is within the limits.
abbrev pub number_of : ℕ → ℕ → List ℕ → Result ℕ LineKind
number_of low high w = cond (are_digits w && (nat_le low (value_from 0 w) && nat_le (value_from 0 w) high)) (Ok (value_from 0 w)) (Err BadNumber)

abbrev pub address_read : Option (List ℕ) → Result (List ℕ) LineKind
address_read None = Err BadAddress
address_read (Some octets) = Ok octets

-- Four numbers up to 255 without zeros in front, parted by dots.
abbrev pub address_of : List ℕ → Result (List ℕ) LineKind
address_of w = address_read (whole_value (read_ipv4 w))

abbrev pub name_read : Result Name NameError → Result Name LineKind
name_read (Ok n) = Ok n
name_read (Err e) = Err (kind_of_name e)

abbrev pub name_of : List ℕ → Result Name LineKind
name_of w = name_read (name_of_text w)

abbrev pub bytes_read : Result (List ℕ) FromHexError → Result (List ℕ) LineKind
bytes_read (Ok bytes) = Ok bytes
bytes_read (Err e) = Err BadHex

-- Bytes in hexadecimal digits, two each.
abbrev pub bytes_of : List ℕ → Result (List ℕ) LineKind
bytes_of w = bytes_read (decode_of w)

abbrev pub type_read : Option RType → Result RType LineKind
type_read None = Err BadType
type_read (Some t) = Ok t

-- A type that is served, in letters of either case.
abbrev pub type_of : List ℕ → Result RType LineKind
type_of w = type_read (type_named w)

-- The next of these words, read so.
abbrev pub next : {X : Type 0} → (List ℕ → Result X LineKind) → List (List ℕ) → Result (X × List (List ℕ)) LineKind
next read [] = Err WordCount
next read (w ∷ ws) = read w >>= λ x. Ok (x, ws)

-- No word is left.
abbrev pub ended : {X : Type 0} → X → List (List ℕ) → Result X LineKind
ended x [] = Ok x
ended x (w ∷ ws) = Err WordCount
