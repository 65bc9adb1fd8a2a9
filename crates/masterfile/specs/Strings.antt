-- Character-strings in a master file (RFC 1035, section 5.1): escapes are those of names, and any other byte is itself.
use Rattle.std.specs.Prelude.{ℕ, zero, suc, ◌+◌, cond, nat_eq, nat_le, Option, Some, None, Result, Ok, Err, List, [], ◌∷◌, length}
use Rattle.dname.specs.Text.{Token, Dot, Byte, Bad, escaped_token}
use Rattle.master_lexer.specs.Lexemes.{Word, plain, quoted, broken}
use Rattle.masterfile.specs.declared.faults.FileKind.{FileKind}
use Rattle.masterfile.specs.declared.faults.FileKind.TheVariants.{BadData, OpenText}
use Rattle.masterfile.specs.Faults.{◌>>=◌, onto}

abbrev pub byte_onto : ℕ → Option (List ℕ) → Option (List ℕ)
byte_onto b None = None
byte_onto b (Some bs) = Some (b ∷ bs)

abbrev pub token_onto : Token → Option (List ℕ) → Option (List ℕ)
token_onto Dot bs = None
token_onto (Byte b) bs = byte_onto b bs
token_onto Bad bs = None

-- The token at the head of a text of this byte and the bytes behind it, and how many of these it takes.
abbrev pub string_token : ℕ → List ℕ → Token × ℕ
string_token c cs = cond (nat_eq c 92) (escaped_token cs) (Byte c, 0)

-- The bytes that a text writes, without those of its first `taken` bytes.
abbrev pub bytes_behind : ℕ → List ℕ → Option (List ℕ)
bytes_behind taken [] = Some []
bytes_behind zero (c ∷ cs) = token_onto (string_token c cs).0 (bytes_behind (string_token c cs).1 cs)
bytes_behind (suc taken) (c ∷ cs) = bytes_behind taken cs

abbrev pub unescaped : List ℕ → Option (List ℕ)
unescaped cs = bytes_behind 0 cs

-- A string of at most 255 bytes (RFC 1035, section 3.3).
abbrev pub short_enough : Option (List ℕ) → Result (List ℕ) FileKind
short_enough None = Err BadData
short_enough (Some bs) = cond (nat_le (length bs) 255) (Ok bs) (Err BadData)

abbrev pub string_of : List ℕ → Result (List ℕ) FileKind
string_of w = short_enough (unescaped w)

-- The string of a word, in quotes or not.
abbrev pub string_word : Word → Result (List ℕ) FileKind
string_word (plain w) = string_of w
string_word (quoted w) = string_of w
string_word broken = Err OpenText

-- The strings of a TXT record, behind others of `size` bytes: each takes a length byte more, and all together at most
-- 65,535 bytes.
abbrev pub strings_from : ℕ → List Word → Result (List (List ℕ)) FileKind
strings_from size [] = Ok []
strings_from size (w ∷ ws) =
    string_word w >>= λ (s : List ℕ). cond (nat_le (size + (1 + length s)) 65535) (onto s (strings_from (size + (1 + length s)) ws)) (Err BadData)

-- The strings of a TXT record: one or more.
abbrev pub take_strings : List Word → Result (List (List ℕ)) FileKind
take_strings [] = Err BadData
take_strings (w ∷ ws) = strings_from 0 (w ∷ ws)
