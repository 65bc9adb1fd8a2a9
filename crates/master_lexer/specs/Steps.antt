-- What a place of a text holds, and what a step from it finds.
use Rattle.std.specs.Prelude.{◌≡◌, [], ◌∷◌, Option, MatchOption}
use Rattle.master_lexer.specs.Entries.{Text, next_entry, with_word, text_from}
use Rattle.master_lexer.specs.declared.cursor.Place.{Place}
use Rattle.master_lexer.specs.declared.cursor.Step.{Step}
use Rattle.master_lexer.specs.declared.cursor.Step.TheVariants.{Word as WordSpec, Line, Nothing}
use Rattle.master_lexer.specs.declared.lexemes.Word.{Word}
use Rattle.master_lexer.specs.Views.{word_of, lead_of}

abbrev pub text_at : Place → Text
text_at p = text_from p.line p.bracketed p.text.now

-- The step takes the text apart: what it found, and what the place behind it holds.
abbrev pub IsStep : Step → Text → Place → Type 0
IsStep (WordSpec w) t p = t ≡ with_word (word_of w) (text_at p)
IsStep (Line l) t p = t ≡ next_entry p.line (lead_of l) (text_at p)
IsStep Nothing t p = t ≡ record { words = []; later = [] }

-- The next word of the open entry; none at the entry's end, where nothing changes.
abbrev pub IsNextWord : Text → Option Word → Text → Type 0
IsNextWord t word u = MatchOption word ((t.words ≡ []) × (u ≡ t)) (λ w. (t.words ≡ word_of w ∷ u.words) × (u.later ≡ t.later))
