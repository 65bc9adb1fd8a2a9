-- The clients to whom the replies of a step go.
use Rattle.std.specs.Prelude.{◌≡◌, ℕ, ◌⊎◌, Option, List}
use Rattle.message_grammar.specs.Messages.{Question}
use Rattle.wire.specs.declared.via.Via.{Via}
use Rattle.front.specs.Queries.{IsRequest}
use Rattle.front.specs.Openings.{Opening}
use Rattle.front.specs.declared.queries.Refusal.{Refusal}
use Rattle.front.specs.declared.queries.Request.TheVariants as request
use Rattle.runs.specs.States.{Client, Action, Own, OpenQuery, Turn, Plain, ClientQuery}
use Rattle.runs.specs.Messages.{IsRefusal}
use Rattle.runs.specs.Runs.{Earlier, Came}

-- A step serves the query that this client asked: in the step itself, or earlier, under its number.
abbrev pub IsServedFor : ClientQuery → Turn → List Turn → Type 0
IsServedFor who turn past = Came Own who turn past ⊎ ((k : ℕ) × (turn.served ≡ OpenQuery k) × Earlier (Came (OpenQuery k) who) past)

-- A step answers bytes that are no query to be answered: FORMERR or NOTIMP (RFC 1035, section 4.1.1).
pub record Refuses (action : Action) (turn : Turn) : Type 0 where
  pub moment : ℕ
  pub client : ℕ
  pub way : Via
  pub bytes : List ℕ
  pub refusal : Refusal
  pub start : Opening
  pub echo : Option Question
  pub event : turn.event ≡ Client moment client way bytes
  pub reads : IsRequest {A = Plain} bytes (request.Refuse refusal start echo)
  pub reply : IsRefusal client way refusal start echo action
