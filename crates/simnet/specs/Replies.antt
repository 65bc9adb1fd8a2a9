-- What a server's reply is read as.
use Rattle.std.specs.Prelude.{◌≡◌, List, [], ◌∷◌, ℕ}
use Rattle.message_grammar.specs.Messages.{Question, Message, IsMessage}

-- The bytes are a message of one question.
pub record AsksOne (bytes : List ℕ) : Type 0 where
  pub message : Message
  pub is : IsMessage bytes message
  pub question : Question
  pub only : message.questions ≡ question ∷ []
