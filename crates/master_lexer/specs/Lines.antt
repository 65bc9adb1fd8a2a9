-- Words written as lines, and the laws that the lines are read as them.
use Rattle.std.specs.Prelude.{◌≡◌, ℕ, ◌+◌, ◌<◌, ◌==◌, Bool, true, false, ◌&&◌, not, List, [], ◌∷◌, ◌++◌, length}
use Rattle.master_lexer.specs.Lexemes.{Word, plain, quoted, broken, ends_word}
use Rattle.master_lexer.specs.Entries.{Entry, margin, Text, lead, next_entry, with_word, text_from, entries_from}

-- A word as it is written.
abbrev pub written : Word → List ℕ
written (plain w) = w
written (quoted s) = 34 ∷ (s ++ 34 ∷ [])
written broken = []

-- One space between words, and the line's end.
abbrev pub line_of : List Word → List ℕ
line_of [] = 10 ∷ []
line_of (w ∷ []) = written w ++ 10 ∷ []
line_of (w ∷ v ∷ ws) = written w ++ 32 ∷ line_of (v ∷ ws)

-- No byte ends the word before its end, and none is escaped behind it.
abbrev pub is_plain : Bool → List ℕ → Bool
is_plain escaped [] = not escaped
is_plain true (c ∷ cs) = not (c == 10) && is_plain false cs
is_plain false (c ∷ cs) = not (ends_word c) && is_plain (c == 92) cs

-- The same between quotes.
abbrev pub is_quotable : Bool → List ℕ → Bool
is_quotable escaped [] = not escaped
is_quotable true (c ∷ cs) = not (c == 10) && is_quotable false cs
is_quotable false (c ∷ cs) = not (c == 10) && (not (c == 34) && is_quotable (c == 92) cs)

abbrev pub IsWritable : Word → Type 0
IsWritable (plain w) = (0 < length w) × (is_plain false w ≡ true)
IsWritable (quoted s) = is_quotable false s ≡ true
IsWritable broken = ⊥

abbrev pub AreWritable : List Word → Type 0
AreWritable [] = Unit {0}
AreWritable (w ∷ ws) = IsWritable w × AreWritable ws

abbrev pub with_words : List Word → Text → Text
with_words [] t = t
with_words (w ∷ ws) t = with_word w (with_words ws t)

-- A line of words is read as these words, and the text behind it as what follows.
abbrev pub LineIsReadBack : Type 0
LineIsReadBack = (line : ℕ) (ws : List Word) (rest : List ℕ) → AreWritable ws
    → text_from line false (line_of ws ++ rest) ≡ with_words ws (next_entry (line + 1) (lead rest) (text_from (line + 1) false rest))

-- Lines one behind the other.
abbrev pub lines_of : List (List Word) → List ℕ
lines_of [] = []
lines_of (ws ∷ wss) = line_of ws ++ lines_of wss

abbrev pub AllWritable : List (List Word) → Type 0
AllWritable [] = Unit {0}
AllWritable (ws ∷ wss) = AreWritable ws × AllWritable wss

-- An entry a line, from the line of this number on. Behind the last line's end stands one without words.
abbrev pub entries_of : ℕ → List (List Word) → List Entry
entries_of line [] = record { line = line; lead = margin; words = [] } ∷ []
entries_of line (ws ∷ wss) = record { line = line; lead = margin; words = ws } ∷ entries_of (line + 1) wss

-- A text of lines is read as these entries.
abbrev pub LinesAreReadBack : Type 0
LinesAreReadBack = (line : ℕ) (wss : List (List Word)) → AllWritable wss → entries_from line (lines_of wss) ≡ entries_of line wss
