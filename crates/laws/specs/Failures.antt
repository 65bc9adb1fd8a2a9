-- Failures since no server is left, or none that did not fail lately (RFC 2308, section 7.1).
use Rattle.std.specs.Prelude.{◌≡◌, ℕ, ◌-◌, ◌≤◌, ◌<◌, ◌⊎◌, true, List, ◌∷◌, length}
use Rattle.limits.specs.Limits.{max_aliases}
use Rattle.dname.specs.Labels.{Name}
use Rattle.rdata.specs.Records.{Record}
use Rattle.rdata.specs.Types.{type_number}
use Rattle.rdata.specs.declared.addr.Addr.{Addr}
use Rattle.message_grammar.specs.Messages.{Message}
use Rattle.causes.specs.declared.cause.Cause.TheVariants.{NoServerLeft}
use Rattle.front.specs.declared.queries.Outcome.{Outcome}
use Rattle.front.specs.declared.queries.Outcome.TheVariants.{Fail}
use Rattle.resolution.specs.Jobs.{Home, is_server_failure}
use Rattle.runs.specs.States.{Own, OpenQuery, Turn, Plain, ClientQuery, Ask, IsFor, Site, State}
use Rattle.runs.specs.Runs.{Run, Earlier, Always, Accepts, clock_of, asks_of}
use Rattle.laws.specs.Spent.{HasFailed, AcceptedAliasesLead, IsSpent}
use Rattle.laws.specs.Replies.{RepliesAre}

-- The number of the query that is served. A query that is over in its own step has none: any number under which nothing
-- was asked stands for it.
abbrev pub IsNumber : ℕ → Turn → List Turn → Type 0
IsNumber k turn past = (turn.served ≡ OpenQuery k) ⊎ ((turn.served ≡ Own) × (asks_of k past ≡ 0))

-- At most eight aliases lead from the asked name to one all of whose servers are used up.
abbrev pub EndsSpent : ℕ → Home → List Turn → (Name → Name → ℕ → Addr → Type 0) → ℕ → Name → Type 0
EndsSpent port home run Fails t from =
    (n : Name) × (aliases : List Record) × (length aliases ≤ max_aliases) × AcceptedAliasesLead port home run t from aliases n × IsSpent port home run Fails n t 0

abbrev pub HasNoServer : ℕ → Home → ClientQuery → Turn → List Turn → Type 0
HasNoServer port home who turn past =
    (k : ℕ) × IsNumber k turn past × EndsSpent port home (turn ∷ past) (HasFailed port home (turn ∷ past) k) (type_number (who.query).kind) (who.query).name

-- ---- servers that failed lately

-- In this step a server's answer to a question was accepted that says SERVFAIL and is not truncated.
pub record SaysFailure (port : ℕ) (n : Name) (t : ℕ) (a : Addr) (since : ℕ) (turn : Turn) (past : List Turn) : Type 0 where
  pub by : ℕ
  pub ask : Ask
  pub message : Message
  pub accepts : Accepts port by ask message turn past
  pub for : IsFor a n t ask
  pub failure : is_server_failure message ≡ true
  pub moment : since ≡ clock_of (turn ∷ past)

-- Such an answer was accepted in this step or before it, and less than 30 seconds ago.
abbrev pub FailedLately : ℕ → Name → ℕ → Addr → Turn → List Turn → Type 0
FailedLately port n t a turn past =
    (since : ℕ) × Earlier (SaysFailure port n t a since) (turn ∷ past) × (clock_of (turn ∷ past) - since < 30000)

-- The server had failed lately in a step that served the query: in this one, or in one before it.
abbrev pub WasKnown : ℕ → ℕ → Turn → List Turn → Name → ℕ → Addr → Type 0
WasKnown port k turn past n t a = FailedLately port n t a turn past ⊎ Earlier (λ u before. (u.served ≡ OpenQuery k) × FailedLately port n t a u before) past

-- All servers are used up, where a server that was known to have failed counts too; and one at least was.
abbrev pub HasKnownFailure : ℕ → Home → ClientQuery → Turn → List Turn → Type 0
HasKnownFailure port home who turn past =
    (k : ℕ) × IsNumber k turn past × ((n : Name) × (t : ℕ) × (a : Addr) × WasKnown port k turn past n t a)
    × EndsSpent port home (turn ∷ past) (λ z n t a. HasFailed port home (turn ∷ past) k z n t a ⊎ WasKnown port k turn past n t a) (type_number (who.query).kind) (who.query).name

abbrev pub IsSpentFor : ℕ → Home → ClientQuery → Outcome Plain → Turn → List Turn → Type 0
IsSpentFor port home who result turn past = result ≡ Fail NoServerLeft → HasNoServer port home who turn past

-- In every run each failure since no server is left has that cause: no premise on clients, servers or messages.
abbrev pub EveryFailureIsSpent : Type 0
EveryFailureIsSpent = (site : Site) (run : List Turn) (s : State) → Run site run s → Always (RepliesAre site.home (IsSpentFor site.port site.home)) run
