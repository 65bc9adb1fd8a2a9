-- What a text parts into, by cases (RFC 1035, section 5.1), and the law that the functions of Entries find it.
use Rattle.std.specs.Prelude.{◌≡◌, ℕ, ◌+◌, ◌<◌, Bool, true, false, ◌⊎◌, ◌↔◌, Some, List, [], ◌∷◌, ◌++◌, length}
use Rattle.master_lexer.specs.Lexemes.{Word, plain, quoted, broken, is_blank, word_size, quote_size, line_size}
use Rattle.master_lexer.specs.Entries.{lead, Entry, entries_from}

-- `cs` begins with what parts words: a space, tab or carriage return, or a comment up to its line's end. `rest` follows.
abbrev pub IsGap : List ℕ → List ℕ → Type 0
IsGap cs rest = ((c : ℕ) × (cs ≡ c ∷ rest) × (is_blank c ≡ true)) ⊎ ((t : List ℕ) × (cs ≡ 59 ∷ (t ++ rest)) × (line_size (t ++ rest) ≡ length t))

-- `cs` begins with this whole word, and `rest` follows it.
abbrev pub IsWordAt : List ℕ → Word → List ℕ → Type 0
IsWordAt cs (plain w) rest = (cs ≡ w ++ rest) × (0 < length w) × (word_size false cs ≡ length w)
IsWordAt cs (quoted s) rest = (cs ≡ 34 ∷ (s ++ 34 ∷ rest)) × (quote_size false (s ++ 34 ∷ rest) ≡ Some (length s))
IsWordAt cs broken rest = ⊥

-- `Parts line inside cs words later`: on the line of this number, within a parenthesis or not, `cs` holds these further
-- words of the open entry, and then these entries.
pub data Parts : ℕ → Bool → List ℕ → List Word → List Entry → Type 0 where
  text_ends : (line : ℕ) (inside : Bool) (cs : List ℕ) (ws : List Word) (es : List Entry)
      → inside ≡ false → cs ≡ [] → ws ≡ [] → es ≡ [] → Parts line inside cs ws es
  gap_stands : (line : ℕ) (inside : Bool) (cs : List ℕ) (ws : List Word) (es : List Entry) (rest : List ℕ)
      → IsGap cs rest → Parts line inside rest ws es → Parts line inside cs ws es
  line_goes_on : (line : ℕ) (inside : Bool) (cs : List ℕ) (ws : List Word) (es : List Entry) (rest : List ℕ)
      → inside ≡ true → cs ≡ 10 ∷ rest → Parts (line + 1) true rest ws es → Parts line inside cs ws es
  entry_ends : (line : ℕ) (inside : Bool) (cs : List ℕ) (ws : List Word) (es : List Entry) (rest : List ℕ) (next : List Word) (later : List Entry)
      → inside ≡ false → cs ≡ 10 ∷ rest → ws ≡ [] → es ≡ record { line = line + 1; lead = lead rest; words = next } ∷ later
      → Parts (line + 1) false rest next later → Parts line inside cs ws es
  bracket_opens : (line : ℕ) (inside : Bool) (cs : List ℕ) (ws : List Word) (es : List Entry) (rest : List ℕ)
      → inside ≡ false → cs ≡ 40 ∷ rest → Parts line true rest ws es → Parts line inside cs ws es
  bracket_closes : (line : ℕ) (inside : Bool) (cs : List ℕ) (ws : List Word) (es : List Entry) (rest : List ℕ)
      → inside ≡ true → cs ≡ 41 ∷ rest → Parts line false rest ws es → Parts line inside cs ws es
  word_stands : (line : ℕ) (inside : Bool) (cs : List ℕ) (ws : List Word) (es : List Entry) (rest : List ℕ) (w : Word) (next : List Word)
      → IsWordAt cs w rest → ws ≡ w ∷ next → Parts line inside rest next es → Parts line inside cs ws es

-- A text whose first line has this number parts into these entries.
abbrev pub IsPartedFrom : ℕ → List ℕ → List Entry → Type 0
IsPartedFrom line cs es = (ws : List Word) × (later : List Entry) × (es ≡ record { line = line; lead = lead cs; words = ws } ∷ later) × Parts line false cs ws later

-- No fault of form.
abbrev pub AreWhole : List Word → Type 0
AreWhole [] = Unit {0}
AreWhole (plain w ∷ ws) = AreWhole ws
AreWhole (quoted w ∷ ws) = AreWhole ws
AreWhole (broken ∷ ws) = ⊥

abbrev pub AreWholeEntries : List Entry → Type 0
AreWholeEntries [] = Unit {0}
AreWholeEntries (e ∷ es) = AreWhole e.words × AreWholeEntries es

-- The parts of a text are what the functions find, and what they find without a fault of form are its parts.
abbrev pub PartsBothWays : Type 0
PartsBothWays = (line : ℕ) (cs : List ℕ) (es : List Entry) → IsPartedFrom line cs es ↔ ((entries_from line cs ≡ es) × AreWholeEntries es)
