-- The laws that the functions of this crate state.
use Rattle.std.specs.Prelude.{◌≡◌, ℕ, List, [], ◌∷◌}
use Rattle.rdata.specs.Types.{type_number}
use Rattle.message_grammar.specs.Messages.{Message, Question, internet, IsMessage, folded_question}
use Rattle.zone.specs.Look.{Local}
use Rattle.front.specs.Queries.{IsRequest}
use Rattle.front.specs.Chains.{AnswersLocally}
use Rattle.front.specs.declared.queries.Query.{Query}
use Rattle.front.specs.declared.queries.Request.{Request}
use Rattle.front.specs.declared.queries.Request.TheVariants as request
use Rattle.front.specs.declared.queries.Outcome.{Outcome}

-- The bytes of a client have one meaning at most.
abbrev pub OneReading : Type 0 → Type 0
OneReading A = (bytes : List ℕ) (a b : Request A) → IsRequest bytes a → IsRequest bytes b → a ≡ b

-- Local zones have one answer at most.
abbrev pub OneLocalAnswer : Type 0 → Type 0
OneLocalAnswer A = (look : List (List ℕ) → Local) (name : List (List ℕ)) (a b : Outcome A) → AnswersLocally look name a → AnswersLocally look name b → a ≡ b

-- The question of a query: its name in lower case, its type, and class IN.
abbrev pub question_of : {A : Type 0} → Query A → Question
question_of q = record { name = q.name; qtype = type_number q.kind; qclass = internet }

-- The bytes are a message of the query's question alone, and the echo is that question but for its letters.
pub record IsEchoed {A : Type 0} (bytes : List ℕ) (q : Query A) : Type 0 where
  pub message : Message
  pub is : IsMessage bytes message
  pub only : message.questions ≡ question_of q ∷ []
  pub echo : folded_question q.echo ≡ question_of q

-- A reply repeats the question of the query's bytes.
abbrev pub EchoIsQuestion : Type 0 → Type 0
EchoIsQuestion A = (bytes : List ℕ) (q : Query A) → IsRequest bytes (request.Query q) → IsEchoed bytes q
