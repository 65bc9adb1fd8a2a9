-- What becomes of queries that ask for admission.
use Rattle.std.specs.Prelude.{◌≡◌, ℕ, ◌-◌, ◌⊎◌, Bool, true, false, cond, ◌&&◌, nat_le, nat_lt, Option, Some, None, List, ◌++◌, length, take, drop}
use Rattle.std.specs.Bool.{MatchBool}
use Rattle.std.specs.declared.hash.DefaultHasher.{DefaultHasher}
use Rattle.causes.specs.declared.cause.Cause.{Cause}
use Rattle.runs.specs.States.{Action as ActionSpec, Reply}
use Rattle.events.specs.declared.action.Action.{Action}
use Rattle.events.specs.declared.action.Action.TheVariants as said
use Rattle.admission.specs.States.{State, of_key}
use Rattle.dispatch.specs.Questions.{HasQuestion}
use Rattle.admission.specs.Moves.{Admits, is_entering, opened, left}
use Rattle.admission.specs.declared.queries.Decision.{Decision}
use Rattle.admission.specs.declared.queries.Decision.TheVariants as decision
use Rattle.front.specs.declared.queries.Request.TheVariants as request
use Rattle.typed.specs.Events.{Parsed}
use Rattle.typed.specs.Events as typed
use Rattle.server.specs.Askers.{admission_client}
use Rattle.server.specs.Keys.{query_key, domain_key}
use Rattle.server.specs.declared.passage.Standing.{Standing}
use Rattle.server.specs.declared.passage.Standing.TheVariants.{Free, Asks, Admitted, Comes, Answered}
use Rattle.server.specs.declared.passage.Standing.TheVariants as standing
use Rattle.server.specs.declared.shared_admission.Question.{Question}
use Rattle.server.specs.declared.query.Asker.{Asker}
use Rattle.server.specs.declared.query.Query.{Query}

-- Whether a question that asks is said to be of a domain of which a name was answered.
abbrev pub answered_in : Standing → Bool
answered_in (Asks question) = question.was_answered
answered_in Comes = false
answered_in Answered = false
answered_in Free = false
answered_in (Admitted question) = false
answered_in standing.Held = false
answered_in standing.Dropped = false
answered_in standing.Unseen = false

-- A query asks for admission, under the key of what it asks, the number of its client and the domain of its name, of
-- which a name was answered or not. What is no query needs none.
abbrev pub IsStanding : DefaultHasher → Parsed → Standing → Type 0
IsStanding start (typed.Client now client way (request.Query query)) standing =
    standing
    ≡ Asks (record {
      key = query_key start query;
      client = admission_client way client;
      domain = domain_key start query.name;
      was_answered = answered_in standing;
    })
IsStanding start (typed.Client now client way request.Drop) standing = standing ≡ Free
IsStanding start (typed.Client now client way (request.Refuse why begins echo)) standing = standing ≡ Free
IsStanding start (typed.Datagram now sock from reading) standing = standing ≡ Free
IsStanding start (typed.TcpReply now number reading) standing = standing ≡ Free
IsStanding start (typed.TcpFailed now number) standing = standing ≡ Free
IsStanding start (typed.Tick now) standing = standing ≡ Free

-- How a message stands that was read just now: a question that was admitted before stands so. Of any other message it
-- is still to be seen whether it has to ask.
abbrev pub first_standing : Option Question → Standing
first_standing (Some question) = Admitted question
first_standing None = Comes

-- How a message stands once that is seen, which stood so before: where it was still to be seen, what was read of it
-- says how. Else it stands as it did.
abbrev pub StandsAs : DefaultHasher → Parsed → Standing → Standing → Type 0
StandsAs start parsed Comes stands = IsStanding start parsed stands
StandsAs start parsed Answered stands = stands ≡ Answered
StandsAs start parsed Free stands = stands ≡ Free
StandsAs start parsed (Asks question) stands = stands ≡ Asks question
StandsAs start parsed (Admitted question) stands = stands ≡ Admitted question
StandsAs start parsed standing.Held stands = stands ≡ standing.Held
StandsAs start parsed standing.Dropped stands = stands ≡ standing.Dropped
StandsAs start parsed standing.Unseen stands = stands ≡ standing.Unseen

-- Whether the step of a message that stands so is to be taken now. Of one that was answered it is taken already.
abbrev pub is_passed : Standing → Bool
is_passed Comes = false
is_passed Answered = false
is_passed Free = true
is_passed (Admitted question) = true
is_passed (Asks question) = false
is_passed standing.Held = false
is_passed standing.Dropped = false
is_passed standing.Unseen = false

-- Whether a query of these bytes, with this key, has over 512 of them and would have to wait.
abbrev pub is_too_long : State Query → ℕ → List ℕ → Bool
is_too_long d key bytes = nat_lt 512 (length bytes) && nat_le d.limits.equal (of_key key d)

-- How a question stands by what was decided of its query.
abbrev pub standing_by : Question → Decision Query → Standing
standing_by question (decision.In query) = Admitted question
standing_by question decision.Waits = standing.Held
standing_by question (decision.Refused query) = standing.Dropped

-- The query that is still here then.
abbrev pub query_by : Decision Query → Option Query
query_by (decision.In query) = Some query
query_by decision.Waits = None
query_by (decision.Refused query) = Some query

-- Admission decided so on a question that came at this moment in that query.
pub record IsAsked (before : State Query) (question : Question) (moment : ℕ) (query : Query) (stands : Standing) (here : Option Query) (after : State Query) : Type 0 where
  pub decision : Decision Query
  pub admits : Admits before question.key question.client question.domain question.was_answered moment query decision after
  pub stands_so : stands ≡ standing_by question decision
  pub here_so : here ≡ query_by decision

-- A question too long to be held is dropped, and admission does not hear of it. On any other it decides.
abbrev pub StandsBy : State Query → Question → ℕ → Query → Standing → Option Query → State Query → Type 0
StandsBy before question moment query stands here after =
    MatchBool (is_too_long before question.key query.bytes)
    ((stands ≡ standing.Dropped) × (here ≡ Some query) × (after ≡ before))
    (IsAsked before question moment query stands here after)

-- Whether the query of a question that stands so is still here: it is, unless it waits in admission.
abbrev pub is_here : Standing → Bool
is_here Comes = true
is_here Answered = true
is_here Free = true
is_here (Asks question) = true
is_here (Admitted question) = true
is_here standing.Held = false
is_here standing.Dropped = true
is_here standing.Unseen = true

-- How a question stands by what admission decided. One that is dropped is free in place of that where the machine holds
-- its answer: its step asks no server, so that it needs no place. It is dropped where the machine does not hold it, or no
-- memory is left to see that.
abbrev pub IsLetBy : Type 0 → Standing → Standing → Type 0
IsLetBy holds Comes stands = stands ≡ Comes
IsLetBy holds Answered stands = stands ≡ Answered
IsLetBy holds Free stands = stands ≡ Free
IsLetBy holds (Asks question) stands = stands ≡ Asks question
IsLetBy holds (Admitted question) stands = stands ≡ Admitted question
IsLetBy holds standing.Held stands = stands ≡ standing.Held
IsLetBy holds standing.Dropped stands =
    (holds × (stands ≡ Free)) ⊎ (((holds → ⊥) × (stands ≡ standing.Dropped)) ⊎ (stands ≡ standing.Unseen))
IsLetBy holds standing.Unseen stands = stands ≡ standing.Unseen

-- What admission is told of a message whose step was taken, and asked a server or not: a question that asked one is
-- open since that moment, and any other leaves.
abbrev pub told : Standing → Bool → ℕ → State Query → State Query
told (Admitted question) asks moment d =
    cond asks (opened question.key question.client moment d) (left (is_entering question.key question.client) d)
told Comes asks moment d = d
told Answered asks moment d = d
told Free asks moment d = d
told (Asks question) asks moment d = d
told standing.Held asks moment d = d
told standing.Dropped asks moment d = d
told standing.Unseen asks moment d = d

-- Why a reply is a SERVFAIL, where it is one.
abbrev pub cause_in : {A : Type 0} → Action A → Option Cause
cause_in (said.Reply client way bytes cause) = cause
cause_in (said.Send sock to bytes) = None
cause_in (said.TcpAsk number to bytes) = None

-- The failure goes to who asked, by the way by which he asked, with the cause of the one that failed.
abbrev pub failure_copy : {A : Type 0} → Action A → Asker → List ℕ → ActionSpec
failure_copy failed asker bytes = Reply asker.client asker.way bytes (cause_in failed)

-- The bytes of a failure as the reply to an equal query: under its ID, and with its question as it is spelt there.
-- Where the query's name does not stand in full, all behind the ID is the failure's.
abbrev pub IsFailureFor : List ℕ → List ℕ → List ℕ → Type 0
IsFailureFor failure query bytes =
    ((end : ℕ) × HasQuestion query end × (bytes ≡ take 2 query ++ (take 10 (drop 2 failure) ++ take (end - 12) (drop 12 query))))
    ⊎ (((end : ℕ) → HasQuestion query end → ⊥) × (bytes ≡ take 2 query ++ drop 2 failure))
