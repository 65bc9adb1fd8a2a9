-- Why a query fails: each cause of a SERVFAIL stands in the run.
use Rattle.std.specs.Prelude.{◌≡◌, ℕ, ◌+◌, ◌≤◌, List, [], ◌∷◌, length, Contains}
use Rattle.limits.specs.Limits.{max_asks, max_open}
use Rattle.dname.specs.Labels.{Name}
use Rattle.rdata.specs.Records.{Record}
use Rattle.rdata.specs.Types.{type_number}
use Rattle.causes.specs.declared.cause.Cause.{Cause}
use Rattle.causes.specs.declared.cause.Cause.TheVariants.{TooManyOpen, DeadlineOver, ChainTooLong, TooManyAsks, NoServerLeft, ReplyTooLarge, KnownFailure, TooManyLookUps}
use Rattle.front.specs.declared.queries.Outcome.{Outcome}
use Rattle.front.specs.declared.queries.Outcome.TheVariants.{Answer, Referral, Refused, Fail}
use Rattle.resolution.specs.Jobs.{Home}
use Rattle.runs.specs.States.{OpenQuery, Own, Turn, Plain, ClientQuery, Ask, Site, State}
use Rattle.runs.specs.Runs.{Run, Earlier, Always, IsOpenAskOf, Came, clock_of, asks_of}
use Rattle.laws.specs.Spent.{AcceptedAliasesLead}
use Rattle.laws.specs.Failures.{HasNoServer, HasKnownFailure}
use Rattle.laws.specs.LookUps.{HasLookedUp}
use Rattle.laws.specs.Timely.{IsTimely}
use Rattle.laws.specs.Replies.{RepliesAre}

abbrev pub AreDistinct : List ℕ → Type 0
AreDistinct [] = Unit {0}
AreDistinct (k ∷ ks) = (Contains ks k → ⊥) × AreDistinct ks

-- 1,024 queries with different numbers have open asks.
abbrev pub AreCrowded : ℕ → List Turn → Type 0
AreCrowded port past = (ks : List ℕ) × (max_open ≤ length ks) × AreDistinct ks × ((k : ℕ) → Contains ks k → (ask : Ask) × IsOpenAskOf port k ask past)

-- The query came ten seconds ago, or before.
abbrev pub IsPastDeadline : ClientQuery → Turn → List Turn → Type 0
IsPastDeadline who turn past =
    (k : ℕ) × (turn.served ≡ OpenQuery k) × Earlier (λ came before. Came (OpenQuery k) who came before × (clock_of (came ∷ before) + 10000 ≤ clock_of (turn ∷ past))) past

-- Nine aliases lead on from the asked name.
abbrev pub IsTooLong : ℕ → Home → ClientQuery → Turn → List Turn → Type 0
IsTooLong port home who turn past =
    (aliases : List Record) × (to : Name) × (length aliases ≡ 9) × AcceptedAliasesLead port home (turn ∷ past) (type_number (who.query).kind) (who.query).name aliases to

-- 40 asks went out for the query.
abbrev pub HasAskedEnough : Turn → List Turn → Type 0
HasAskedEnough turn past = (k : ℕ) × (turn.served ≡ OpenQuery k) × (asks_of k past ≡ max_asks)

-- The meaning of each cause. Over TCP a reply of more than 65,535 bytes becomes a SERVFAIL of the cause
-- `ReplyTooLarge`; a resolution never fails for it.
abbrev pub IsCaused : ℕ → Home → ClientQuery → Cause → Turn → List Turn → Type 0
IsCaused port home who TooManyOpen turn past = (turn.served ≡ Own) × AreCrowded port past
IsCaused port home who DeadlineOver turn past = IsPastDeadline who turn past
IsCaused port home who ChainTooLong turn past = IsTooLong port home who turn past
IsCaused port home who TooManyAsks turn past = HasAskedEnough turn past
IsCaused port home who NoServerLeft turn past = HasNoServer port home who turn past
IsCaused port home who ReplyTooLarge turn past = ⊥
IsCaused port home who KnownFailure turn past = HasKnownFailure port home who turn past
IsCaused port home who TooManyLookUps turn past = HasLookedUp port home turn past

-- The outcome of a recursive query: an answer within its TTL, or a failure whose cause stands in the run.
abbrev pub IsExplained : ℕ → Home → ClientQuery → Outcome Plain → Turn → List Turn → Type 0
IsExplained port home who (Answer aa aliases end) turn past = IsTimely port home turn past (who.query).name (type_number (who.query).kind) aa aliases end
IsExplained port home who (Referral servers addresses) turn past = ⊥
IsExplained port home who Refused turn past = ⊥
IsExplained port home who (Fail c) turn past = IsCaused port home who c turn past

-- Each reply is explained so, in every run and whatever comes.
abbrev pub RepliesAreTimely : Type 0
RepliesAreTimely = (site : Site) (run : List Turn) (s : State) → Run site run s → Always (RepliesAre site.home (IsExplained site.port site.home)) run
