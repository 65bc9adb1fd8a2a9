-- A world text as it is read, as plain values.
use Rattle.std.specs.Prelude.{◌≡◌, ℕ, ◌-◌, Option, Some, None, Result, List, ◌++◌, length, take}
use Rattle.worlds.specs.Kept.{addresses}
use Rattle.text_lines.specs.declared.fault.LineError.{LineError}
use Rattle.text_lines.specs.Lines.{lines}
use Rattle.world_text.specs.WorldTexts.{Block}
use Rattle.world_text.specs.Readings.{Said, Reading, outside, inside, with_block, read_from}
use Rattle.world_text.specs.declared.world_text.WorldText.{WorldText}
use Rattle.world_text.specs.declared.open_block.OpenBlock.{OpenBlock}
use Rattle.world_text.specs.declared.reader.Reader.{Reader}

abbrev pub said_seen : {A : Type 0} → WorldText A → Said
said_seen w = record { blocks = w.blocks.items; hosts = w.hosts.items; hints = addresses w.hints.items }

-- The text of an open block, where so much of the world's text is left to be read.
abbrev pub block_seen : {A : Type 0} → List ℕ → OpenBlock A → Block
block_seen left o = record { origin = o.origin; is_local = o.is_local; line = o.line; text = take (length o.behind.now - length left) o.behind.now }

abbrev pub reading_with : {A : Type 0} → List ℕ → Said → Option (OpenBlock A) → Reading
reading_with left s None = outside s
reading_with left s (Some o) = inside s (block_seen left o)

abbrev pub reading_seen : {A : Type 0} → List ℕ → Reader A → Reading
reading_seen left r = reading_with left (said_seen r.world) r.opening

-- The open block ends here.
abbrev pub closed : Reading → Reading
closed (outside s) = outside s
closed (inside s b) = outside (with_block s b)

-- What the text says that is left to be read, from the line of that number on.
abbrev pub says_from : {A : Type 0} → ℕ → Reader A → List ℕ → Result Said LineError
says_from n r left = read_from n (reading_seen left r) (lines left)

-- A text's end.
pub record IsTail (tail text : List ℕ) : Type 0 where
  pub front : List ℕ
  pub is : text ≡ front ++ tail

-- What is left is a part of what stands behind the line that opened the block.
abbrev pub IsLeftBehind : {A : Type 0} → List ℕ → Option (OpenBlock A) → Type 0
IsLeftBehind left None = Unit {0}
IsLeftBehind left (Some o) = IsTail left o.behind.now
