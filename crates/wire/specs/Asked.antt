-- The one question of a message, read alone.
use Rattle.std.specs.Prelude.{◌≡◌, ◌⊎◌, ℕ, Ok, List, [], ◌∷◌, length}
use Rattle.message_grammar.specs.Names.{SpeltAt}
use Rattle.message_grammar.specs.Messages.{Question, Message, IsMessage}
use Rattle.wire.specs.Entries.{message_first, message_of}

-- The bytes from this place on are the sections of records of a message, whatever its questions are.
abbrev pub AreBehind : List ℕ → ℕ → Type 0
AreBehind bytes at = (questions : List Question) → message_of bytes ≡ message_first bytes (questions, at) → (m : Message) × (message_of bytes ≡ Ok m) × (m.questions ≡ questions)

-- The bytes are a message of one question, which is for this name; the echo is that question in its own letters.
pub record IsOnlyQuestion (bytes : List ℕ) (name : List (List ℕ)) (echo : Question) : Type 0 where
  pub message : Message
  pub is : IsMessage bytes message
  pub only : message.questions ≡ record { name = name; qtype = echo.qtype; qclass = echo.qclass } ∷ []
  pub end : ℕ
  pub spelt : SpeltAt bytes 12 echo.name end

-- The bytes are no message, or one of no question or of several.
abbrev pub HasNotOne : List ℕ → Type 0
HasNotOne bytes = ((m : Message) → IsMessage bytes m → ⊥) ⊎ ((m : Message) × IsMessage bytes m × (length m.questions ≡ 1 → ⊥))
