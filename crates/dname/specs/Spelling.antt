-- Which name a text writes (RFC 1035, section 5.1), said apart from how it is read.
use Rattle.std.specs.Prelude.{◌≡◌, ◌≢◌, ℕ, ◌+◌, ◌<◌, ◌≤◌, ◌↔◌, Ok, Err, List, [], ◌∷◌, ◌++◌, length}
use Rattle.dname.specs.Labels.{root, wire, folded_labels, IsName}
use Rattle.dname.specs.Draft.{Draft, empty_draft}
use Rattle.dname.specs.declared.text.NameError.{NameError}
use Rattle.dname.specs.declared.text.NameError.TheVariants.{EmptyLabel, LongLabel, LongName, BadByte}
use Rattle.dname.specs.Text.{Token, Dot, Byte, Bad, from_digits, spelled, name_under}

-- A byte that stands for itself: printed, and neither the dot nor the backslash.
pub record IsPlain (b : ℕ) : Type 0 where
  pub least : 33 ≤ b
  pub most : b ≤ 126
  pub no_dot : b ≢ 46
  pub no_backslash : b ≢ 92

abbrev pub IsDigit : ℕ → Type 0
IsDigit b = (48 ≤ b) × (b ≤ 57)

-- A text writes these tokens: dots, and bytes.
pub data Spells : List ℕ → List Token → Type 0 where
  nothing : (cs : List ℕ) (ts : List Token) → cs ≡ [] → ts ≡ [] → Spells cs ts
  dot : (cs rest : List ℕ) (ts later : List Token) → cs ≡ 46 ∷ rest → ts ≡ Dot ∷ later → Spells rest later → Spells cs ts
  plain : (cs rest : List ℕ) (ts later : List Token) (b : ℕ) → IsPlain b → cs ≡ b ∷ rest → ts ≡ Byte b ∷ later → Spells rest later → Spells cs ts
  escaped : (cs rest : List ℕ) (ts later : List Token) (b : ℕ) → ¬ IsDigit b → cs ≡ 92 ∷ b ∷ rest → ts ≡ Byte b ∷ later → Spells rest later → Spells cs ts
  number : (cs rest : List ℕ) (ts later : List Token) (d e f : ℕ) → IsDigit d → IsDigit e → IsDigit f → from_digits d e f ≤ 255
      → cs ≡ 92 ∷ d ∷ e ∷ f ∷ rest → ts ≡ Byte (from_digits d e f) ∷ later → Spells rest later → Spells cs ts

-- The bytes before the first dot; the parts between and behind the dots.
abbrev pub first_part : List Token → List ℕ
first_part [] = []
first_part (Dot ∷ ts) = []
first_part (Byte b ∷ ts) = b ∷ first_part ts
first_part (Bad ∷ ts) = first_part ts

abbrev pub later_parts : List Token → List (List ℕ)
later_parts [] = []
later_parts (Dot ∷ ts) = first_part ts ∷ later_parts ts
later_parts (Byte b ∷ ts) = later_parts ts
later_parts (Bad ∷ ts) = later_parts ts

-- The parts as labels: behind a dot that ends the text stands an empty one, the root's.
abbrev pub parts : List Token → List (List ℕ)
parts ts = folded_labels (first_part ts ∷ later_parts ts)

-- A text writes the root by a dot alone, an absolute name by all its labels, and any other name by those before the
-- labels of the origin. Whether such a name fits is said apart: labels have 1 to 63 bytes, and a name 255 in all.
pub data Writes (origin : List (List ℕ)) (text : List ℕ) (n : List (List ℕ)) : Type 0 where
  root_alone : text ≡ 46 ∷ [] → n ≡ root → Writes origin text n
  absolute : (ts : List Token) → Spells text ts → 0 < length text → n ≡ parts ts → Writes origin text n
  relative : (ts : List Token) → Spells text ts → n ≡ parts ts ++ origin → Writes origin text n

abbrev pub AreBytes : List ℕ → Type 0
AreBytes [] = Unit {0}
AreBytes (c ∷ cs) = (c < 256) × AreBytes cs

-- A text is read as a name exactly where it writes that name.
abbrev pub TextWritesName : Type 0
TextWritesName = (origin : List (List ℕ)) (text : List ℕ) (n : List (List ℕ)) → IsName origin → AreBytes text
    → (name_under origin text ≡ Ok n) ↔ (Writes origin text n × IsName n)

-- A token is at fault for this reason, behind this draft. Where a byte makes both label and name too long, the label's
-- fault counts.
pub data Faults (d : Draft) (t : Token) (e : NameError) : Type 0 where
  empty_label : t ≡ Dot → d.opened ≡ [] → e ≡ EmptyLabel → Faults d t e
  long_label : (b : ℕ) → t ≡ Byte b → length d.opened ≡ 63 → e ≡ LongLabel → Faults d t e
  long_name : (b : ℕ) → t ≡ Byte b → length d.opened < 63 → 255 < length (wire d.closed) + 1 + length (d.opened ++ b ∷ []) + length (wire root) → e ≡ LongName → Faults d t e
  bad_byte : t ≡ Bad → e ≡ BadByte → Faults d t e

-- Tokens are refused by the first one that is at fault; those before it are read.
abbrev pub FirstFaultCounts : Type 0
FirstFaultCounts = (ts : List Token) (e : NameError) → (spelled empty_draft ts ≡ Err e)
    ↔ ((front : List Token) × (t : Token) × (later : List Token) × (d : Draft) × (ts ≡ front ++ t ∷ later) × (spelled empty_draft front ≡ Ok d) × Faults d t e)
