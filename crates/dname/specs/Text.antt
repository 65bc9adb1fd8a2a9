-- Names in text (RFC 1035, section 5.1): labels parted by dots, with escapes.
use Rattle.std.specs.Prelude.{◌≡◌, ℕ, zero, suc, ◌+◌, ◌-◌, ◌*◌, ◌/◌, ◌%◌, Bool, ◌&&◌, ◌||◌, cond, nat_eq, nat_le, Result, Ok, Err, List, [], ◌∷◌, ◌++◌, length, codes}
use Rattle.std.specs.Cmp.Lexicographic.{pointwise}
use Rattle.dname.specs.Labels.{root, wire, IsName}
use Rattle.dname.specs.Draft.{Draft, empty_draft, pushed, shut}
use Rattle.dname.specs.declared.builder.Overflow.{Overflow}
use Rattle.dname.specs.declared.builder.Overflow.TheVariants as over
use Rattle.dname.specs.declared.text.NameError.{NameError}
use Rattle.dname.specs.declared.text.NameError.TheVariants.{EmptyLabel, LongLabel, LongName, BadByte, Memory}

abbrev pub fault_number : NameError → ℕ
fault_number EmptyLabel = 1
fault_number LongLabel = 2
fault_number LongName = 3
fault_number BadByte = 4
fault_number Memory = 5

abbrev pub fault_text : NameError → List ℕ
fault_text EmptyLabel = codes "empty label"
fault_text LongLabel = codes "label over 63 bytes"
fault_text LongName = codes "name over 255 bytes"
fault_text BadByte = codes "bad escape or byte"
fault_text Memory = codes "out of memory"

-- A token of a text: a dot that parts labels, a byte of a label, or a bad byte.
pub data Token : Type 0 where
  Dot : Token
  Byte : ℕ → Token
  Bad : Token

abbrev pub is_digit : ℕ → Bool
is_digit b = nat_le 48 b && nat_le b 57

-- The number that three digits write.
abbrev pub from_digits : ℕ → ℕ → ℕ → ℕ
from_digits d e f = 100 * (d - 48) + 10 * (e - 48) + (f - 48)

-- The token of a byte that no backslash precedes: only printed bytes may stand so.
abbrev pub plain_token : ℕ → Token
plain_token b = cond (nat_eq b 46) Dot (cond (nat_le 33 b && nat_le b 126) (Byte b) Bad)

-- The token of a backslash and the digit `d`: with two more digits it is the byte of that number.
abbrev pub number_token : ℕ → List ℕ → Token × ℕ
number_token d (e ∷ f ∷ cs) =
    cond (is_digit e && is_digit f && nat_le (from_digits d e f) 255) (Byte (from_digits d e f), 3) (Bad, 0)
number_token d _ = (Bad, 0)

-- The token of a backslash and the text behind it: any byte but a digit stands for itself.
abbrev pub escaped_token : List ℕ → Token × ℕ
escaped_token [] = (Bad, 0)
escaped_token (d ∷ cs) = cond (is_digit d) (number_token d cs) (Byte d, 1)

-- The first token of the text `c ∷ cs`, and how many bytes of `cs` it takes.
abbrev pub first_token : ℕ → List ℕ → Token × ℕ
first_token c cs = cond (nat_eq c 92) (escaped_token cs) (plain_token c, 0)

-- The tokens of a text behind its first `taken` bytes.
abbrev pub tokens_behind : ℕ → List ℕ → List Token
tokens_behind taken [] = []
tokens_behind zero (c ∷ cs) = (first_token c cs).0 ∷ tokens_behind (first_token c cs).1 cs
tokens_behind (suc taken) (c ∷ cs) = tokens_behind taken cs

abbrev pub tokens : List ℕ → List Token
tokens cs = tokens_behind 0 cs

abbrev pub fault_of : Overflow → NameError
fault_of over.LongLabel = LongLabel
fault_of over.LongName = LongName
fault_of over.Memory = Memory

abbrev pub after_push : (Draft → Result Draft NameError) → Result Draft Overflow → Result Draft NameError
after_push go (Ok d) = go d
after_push go (Err e) = Err (fault_of e)

-- The labels that tokens write behind a draft, or the fault that stands first among them. An empty label is at fault at
-- the dot that closes it, a long one at its 64th byte, and a long name at the byte with which it must have more than
-- 255.
abbrev pub spelled : Draft → List Token → Result Draft NameError
spelled d [] = Ok d
spelled d (Dot ∷ ts) = cond (nat_eq (length d.opened) 0) (Err EmptyLabel) (spelled (shut d) ts)
spelled d (Bad ∷ ts) = Err BadByte
spelled d (Byte b ∷ ts) = after_push (λ next. spelled next ts) (pushed d b)

-- The name of these labels with the origin behind them, where that is not too long.
abbrev pub with_origin : List (List ℕ) → List (List ℕ) → Result (List (List ℕ)) NameError
with_origin origin labels = cond (nat_le (length (wire (labels ++ origin))) 255) (Ok (labels ++ origin)) (Err LongName)

-- A last label that no dot closes stands under the origin.
abbrev pub completed : List (List ℕ) → Draft → Result (List (List ℕ)) NameError
completed origin d = cond (nat_eq (length d.opened) 0) (Ok (d.closed ++ root)) (with_origin origin (shut d).closed)

abbrev pub completed_draft : List (List ℕ) → Result Draft NameError → Result (List (List ℕ)) NameError
completed_draft origin (Ok d) = completed origin d
completed_draft origin (Err e) = Err e

-- The name that a text writes where names that no dot ends are relative to `origin` (RFC 1035, section 5.1). A dot
-- alone is the root.
abbrev pub name_under : List (List ℕ) → List ℕ → Result (List (List ℕ)) NameError
name_under origin text = cond (nat_eq (length text) 0) (Err EmptyLabel)
    (cond (pointwise nat_eq text (46 ∷ [])) (Ok root) (completed_draft origin (spelled empty_draft (tokens text))))

-- The name that a text writes where every name is absolute: its closing dot may stand or not.
abbrev pub name_of_text : List ℕ → Result (List (List ℕ)) NameError
name_of_text text = name_under root text

-- When a reader may refuse so: for the fault that stands first; out of memory at any time.
abbrev pub IsFault : {X : Type 0} → NameError → Result X NameError → Type 0
IsFault Memory read = Unit {0}
IsFault EmptyLabel read = read ≡ Err EmptyLabel
IsFault LongLabel read = read ≡ Err LongLabel
IsFault LongName read = read ≡ Err LongName
IsFault BadByte read = read ≡ Err BadByte

-- ---- written

-- `. \ " ; ( ) @ $` have a meaning of their own in a master file.
abbrev pub is_special : ℕ → Bool
is_special b = nat_eq b 46 || nat_eq b 92 || nat_eq b 34 || nat_eq b 59 || nat_eq b 40 || nat_eq b 41 || nat_eq b 64 || nat_eq b 36

-- A byte as three digits behind a backslash.
abbrev pub number_text : ℕ → List ℕ
number_text b = 92 ∷ (48 + b / 100) ∷ (48 + b / 10 % 10) ∷ (48 + b % 10) ∷ []

abbrev pub byte_text : ℕ → List ℕ
byte_text b = cond (is_special b) (92 ∷ b ∷ []) (cond (nat_le 33 b && nat_le b 126) (b ∷ []) (number_text b))

abbrev pub label_text : List ℕ → List ℕ
label_text [] = []
label_text (b ∷ bs) = byte_text b ++ label_text bs

-- Each label but the root's, and a dot behind it.
abbrev pub labels_text : List (List ℕ) → List ℕ
labels_text [] = []
labels_text ([] ∷ ls) = labels_text ls
labels_text ((b ∷ bs) ∷ ls) = label_text (b ∷ bs) ++ 46 ∷ labels_text ls

abbrev pub or_dot : List ℕ → List ℕ
or_dot [] = 46 ∷ []
or_dot (c ∷ cs) = c ∷ cs

-- The text of a name: the root's is a dot.
abbrev pub name_text : List (List ℕ) → List ℕ
name_text n = or_dot (labels_text n)

-- The text of a name is read as that name.
abbrev pub TextIsReadBack : Type 0
TextIsReadBack = (n : List (List ℕ)) → IsName n → name_of_text (name_text n) ≡ Ok n
