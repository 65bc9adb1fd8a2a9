-- Pieces that are added to a text until it is longer than a limit.
use Rattle.std.specs.Prelude.{◌≡◌, ◌⊎◌, ℕ, ◌<◌, List, length}
use Rattle.message_grammar.specs.Pieces.{Piece, Text, after}

-- The text is longer than the limit, and would be so with all of these pieces behind the old one.
pub record IsOver (limit : ℕ) (pieces : List Piece) (old new : Text) : Type 0 where
  pub now : limit < length new.bytes
  pub whole : limit < length (after old pieces).bytes

-- All of the pieces stand behind the old text, and fit their bits; or the text is over the limit.
abbrev pub Puts : ℕ → Type 0 → List Piece → Text → Text → Type 0
Puts limit Fits pieces old new = ((new ≡ after old pieces) × Fits) ⊎ IsOver limit pieces old new
