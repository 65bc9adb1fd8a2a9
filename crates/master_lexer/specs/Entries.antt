-- A master file as its entries of words (RFC 1035, section 5.1): a line is an entry; within parentheses a line's end
-- does not end it. Parentheses do not nest.
use Rattle.std.specs.Prelude.{ℕ, zero, suc, ◌+◌, ◌==◌, Bool, true, false, ◌||◌, cond, List, [], ◌∷◌, length}
use Rattle.master_lexer.specs.Lexemes.{Word, plain, quoted, broken, Lexeme, gap, line_end, opens, closes, item, first}

-- How an entry's first line begins.
pub data Lead : Type 0 where
  -- its first word, if it has one, stands at the line's start
  margin : Lead
  -- a space or tab: the owner is left out
  blank : Lead
  -- a carriage return or `(`: an owner may follow, but it does not stand at the line's start
  shifted : Lead

abbrev pub lead : List ℕ → Lead
lead [] = margin
lead (c ∷ cs) = cond (c == 32 || c == 9) blank (cond (c == 13 || c == 40) shifted margin)

-- An entry: the line on which it starts, how that line begins, its words.
pub record Entry : Type 0 where
  pub line : ℕ
  pub lead : Lead
  pub words : List Word

-- What a text holds from a place on: the words that the open entry still has, and the entries after it.
pub record Text : Type 0 where
  pub words : List Word
  pub later : List Entry

-- Nothing counts after a fault of form.
abbrev pub broken_off : Text
broken_off = record { words = broken ∷ []; later = [] }

abbrev pub ended : Bool → Text
ended true = broken_off
ended false = record { words = []; later = [] }

abbrev pub next_entry : ℕ → Lead → Text → Text
next_entry line lead t = record { words = []; later = record { line = line; lead = lead; words = t.words } ∷ t.later }

abbrev pub with_word : Word → Text → Text
with_word w t = record t { words = w ∷ t.words }

-- `inside`: a parenthesis is open. `go` reads the text after the lexeme.
abbrev pub from_lexeme : (ℕ → Bool → List ℕ → Text) → ℕ → Bool → Lexeme → List ℕ → Text
from_lexeme go line inside gap cs = go line inside cs
from_lexeme go line true line_end cs = go (line + 1) true cs
from_lexeme go line false line_end cs = next_entry (line + 1) (lead cs) (go (line + 1) false cs)
from_lexeme go line true opens cs = broken_off
from_lexeme go line false opens cs = go line true cs
from_lexeme go line true closes cs = go line false cs
from_lexeme go line false closes cs = broken_off
from_lexeme go line inside (item (plain w)) cs = with_word (plain w) (go line inside cs)
from_lexeme go line inside (item (quoted w)) cs = with_word (quoted w) (go line inside cs)
from_lexeme go line inside (item broken) cs = broken_off

-- Each lexeme takes a byte at least, so as many steps as the text has bytes are enough.
abbrev pub text_within : ℕ → ℕ → Bool → List ℕ → Text
text_within n line inside [] = ended inside
text_within zero line inside (c ∷ cs) = ended inside
text_within (suc n) line inside (c ∷ cs) = from_lexeme (text_within n) line inside (first (c ∷ cs)).lexeme (first (c ∷ cs)).after

unfoldable pub text_from : ℕ → Bool → List ℕ → Text
text_from line inside cs = text_within (length cs) line inside cs

-- The entries of a text whose first line has this number.
abbrev pub entries_from : ℕ → List ℕ → List Entry
entries_from line cs = (next_entry line (lead cs) (text_from line false cs)).later

abbrev pub entries : List ℕ → List Entry
entries cs = entries_from 1 cs
