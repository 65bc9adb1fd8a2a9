-- The lexemes of a master file (RFC 1035, section 5.1), from its bytes: each function reads from the first byte on.
use Rattle.std.specs.Prelude.{ℕ, ◌+◌, ◌==◌, Bool, true, false, ◌||◌, cond, Option, Some, None, List, [], ◌∷◌, take, drop}

-- A word in its raw bytes: escapes stand as they were written.
pub data Word : Type 0 where
  -- a run of bytes without quotes
  plain : List ℕ → Word
  -- what stands between two quotes
  quoted : List ℕ → Word
  -- a quote that its line does not close, or a parenthesis that opens or closes none: nothing after it is read
  broken : Word

-- What a text begins with.
pub data Lexeme : Type 0 where
  gap : Lexeme
  line_end : Lexeme
  opens : Lexeme
  closes : Lexeme
  item : Word → Lexeme

pub record First : Type 0 where
  pub lexeme : Lexeme
  pub after : List ℕ

-- Space, tab and carriage return part words.
abbrev pub is_blank : ℕ → Bool
is_blank c = c == 32 || c == 9 || c == 13

-- A blank, a line's end, `"`, `(`, `)` and `;` end a word.
abbrev pub ends_word : ℕ → Bool
ends_word c = is_blank c || c == 10 || c == 34 || c == 40 || c == 41 || c == 59

-- How many bytes of a word stand here; `escaped`: the byte before is a backslash that escapes this one.
-- An escaped byte belongs to its word; a line's end does not, escaped or not.
abbrev pub word_size : Bool → List ℕ → ℕ
word_size escaped [] = 0
word_size true (c ∷ cs) = cond (c == 10) 0 (1 + word_size false cs)
word_size false (c ∷ cs) = cond (ends_word c) 0 (1 + word_size (c == 92) cs)

abbrev pub one_more : Option ℕ → Option ℕ
one_more None = None
one_more (Some n) = Some (1 + n)

-- How many bytes stand before the quote that closes; none on this line: None.
abbrev pub quote_size : Bool → List ℕ → Option ℕ
quote_size escaped [] = None
quote_size true (c ∷ cs) = cond (c == 10) None (one_more (quote_size false cs))
quote_size false (c ∷ cs) = cond (c == 10) None (cond (c == 34) (Some 0) (one_more (quote_size (c == 92) cs)))

-- How many bytes stand before the line's end.
abbrev pub line_size : List ℕ → ℕ
line_size [] = 0
line_size (c ∷ cs) = cond (c == 10) 0 (1 + line_size cs)

abbrev pub first_quoted : Option ℕ → List ℕ → First
first_quoted None cs = record { lexeme = item broken; after = [] }
first_quoted (Some n) cs = record { lexeme = item (quoted (take n cs)); after = drop (n + 1) cs }

-- What the text begins with, and the text after it. A `;` opens a comment, which goes up to the line's end.
abbrev pub first : List ℕ → First
first [] = record { lexeme = gap; after = [] }
first (c ∷ cs) = cond (c == 10) (record { lexeme = line_end; after = cs })
    (cond (c == 40) (record { lexeme = opens; after = cs })
    (cond (c == 41) (record { lexeme = closes; after = cs })
    (cond (c == 59) (record { lexeme = gap; after = drop (line_size cs) cs })
    (cond (c == 34) (first_quoted (quote_size false cs) cs)
    (cond (is_blank c) (record { lexeme = gap; after = cs })
    (record { lexeme = item (plain (take (word_size false (c ∷ cs)) (c ∷ cs))); after = drop (word_size false (c ∷ cs)) (c ∷ cs) }))))))
