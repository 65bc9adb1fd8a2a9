-- The laws that the functions of this crate state.
use Rattle.std.specs.Prelude.{◌≡◌, ℕ, List}
use Rattle.message_grammar.specs.Messages.{Message, IsMessage}
use Rattle.zone.specs.Look.{Local}
use Rattle.front.specs.Chains.{AnswersLocally}
use Rattle.front.specs.declared.queries.Outcome.{Outcome}
use Rattle.runs.specs.Messages.{id_in}
use Rattle.events.specs.Plain.{plain_outcome}

-- The ID in the first bytes of a message is that of the message.
abbrev pub IdIsInMessage : Type 0
IdIsInMessage = (bytes : List ℕ) (m : Message) → IsMessage bytes m → (m.header).id ≡ id_in bytes

-- The answer of local zones is one, whatever its allocator.
abbrev pub LocalAnswerIsPlain : Type 0 → Type 0
LocalAnswerIsPlain A =
    (look : List (List ℕ) → Local) (name : List (List ℕ)) (o : Outcome A) → AnswersLocally look name o → AnswersLocally look name (plain_outcome o)
