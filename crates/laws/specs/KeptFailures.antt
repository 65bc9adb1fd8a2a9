-- Which failure of a server a step caches, and how many cached failures it uses, by its rules; and that a cached failure
-- counts for 30 seconds (RFC 2308, section 7.1) while fewer of them came and were used than there is room for.
use Rattle.std.specs.Prelude.{◌≡◌, ◌≢◌, ℕ, zero, suc, ◌+◌, ◌-◌, ◌<◌, ◌⊎◌, true, cond, Option, Some, None, List, [], ◌∷◌, Contains}
use Rattle.std.proofs.Common.{inl, inr}
use Rattle.message_grammar.specs.Messages.{Message}
use Rattle.cache.specs.Failures.{FailedAsk, is_failed}
use Rattle.resolution.specs.Jobs.{Home, Stores, Search, ask_of, is_server_failure, Job, Input, Start, Told, TimedOut, TcpFailed, Point}
use Rattle.resolution.specs.Rules.{Rule, takes, asks, follows, restarts, skips, hears, descends, gives_up, Rules, Enters}
use Rattle.runs.specs.States.{OpenQuery, Turn, Open, Site, State, moved}
use Rattle.runs.specs.Messages.{Brings}
use Rattle.runs.specs.Steps.{Step}
use Rattle.runs.specs.Runs.{Run}
use Rattle.laws.specs.Opens.{Call, step_call}

-- The failure that a step caches, if it does, and how many cached ones it uses to pass servers over.
pub record FailureUses : Type 0 where
  pub failed : Option FailedAsk
  pub uses : ℕ

abbrev pub no_failure : FailureUses
no_failure = record { failed = None; uses = 0 }

-- ---- of one call

abbrev pub rule_uses : (home : Home) (now : ℕ) (a b : Point) → Rule home now a b → ℕ
rule_uses home now a b (takes l t f u j) = 0
rule_uses home now a b (asks c t m u j) = 0
rule_uses home now a b (follows l r t is few u j e) = 0
rule_uses home now a b (restarts l d front back t is whole fresh dead u j e) = 0
rule_uses home now a b (skips n s u rest failures t searches passes free v j e) = suc n
rule_uses home now a b (hears before around rest n l marks t turn f h u j) = 0
rule_uses home now a b (descends s rest n c t turn m u j) = 0
rule_uses home now a b (gives_up s around rest t up u j e) = 0

abbrev pub rules_uses : (home : Home) (now count : ℕ) (a b : Point) → Rules home now count a b → ℕ
rules_uses home now zero a b same = 0
rules_uses home now (suc n) a b (mid, before, rule) = rules_uses home now n a mid before + rule_uses home now mid b rule

abbrev pub enters_failed : (now : ℕ) (input : Input) (j : Job) (stores : Stores) (p : Point) → Enters now input j stores p → Option FailedAsk
enters_failed now Start j stores p enters = None
enters_failed now (Told via server m) j stores p (inl nothing) = None
enters_failed now (Told via server m) j stores p (inr (s, rest, top, is)) = cond (is_server_failure m) (Some (ask_of s server)) None
enters_failed now (TimedOut server) j stores p enters = None
enters_failed now (TcpFailed server) j stores p enters = None

abbrev pub call_failures : (s : State) → Option (Call s) → FailureUses
call_failures s None = no_failure
call_failures s (Some call) = record {
  failed = enters_failed s.clock call.input call.old s.stores (call.advances).first (call.advances).enters;
  uses = rules_uses (s.site).home s.clock (call.advances).count (call.advances).first (call.advances).last (call.advances).rules;
}

abbrev pub step_failures : (old : State) (t : Turn) (new : State) → Step old t.event t.served t.out new → FailureUses
step_failures old t new step = call_failures (moved old t.event) (step_call old t new step)

-- ---- the accepted failure is the cached one

-- The step serves this query, whose innermost search is `sought`, and accepts for it a message by which the server that
-- was asked failed to answer.
pub record AcceptsFailure (port : ℕ) (old : State) (t : Turn) (q : Open) (sought : Search) (others : List Search) : Type 0 where
  pub there : Contains old.queries q
  pub served : t.served ≡ OpenQuery q.number
  pub searches : (q.job).searches ≡ sought ∷ others
  pub message : Message
  pub brings : Brings port q.ask t.event message
  pub fails : is_server_failure message ≡ true

-- A step that does not run out of memory caches the failure that it accepts, and no other.
abbrev pub CachesAccepted : (site : Site) (old : State) (t : Turn) (new : State) → Step old t.event t.served t.out new → Type 0
CachesAccepted site old t new step =
    t.out ≢ None
    → ((q : Open) (sought : Search) (others : List Search) → AcceptsFailure site.port old t q sought others → (step_failures old t new step).failed ≡ Some (ask_of sought (q.ask).server))
    × ((f : FailedAsk) → (step_failures old t new step).failed ≡ Some f
    → (q : Open) × (sought : Search) × (others : List Search) × AcceptsFailure site.port old t q sought others × (f ≡ ask_of sought (q.ask).server))

abbrev pub FailureIsLooked : Type 0
FailureIsLooked = (site : Site) (past : List Turn) (old : State) (t : Turn) (new : State) → Run site past old → (step : Step old t.event t.served t.out new) → CachesAccepted site old t new step

-- ---- over a run

abbrev pub is_one : Option FailedAsk → ℕ
is_one None = 0
is_one (Some f) = 1

-- This failure was accepted in a step of the run, at this moment, and not again since. Since then memory ran out in no
-- step, and n failures were cached and used.
abbrev pub IsFailureSince : (site : Site) (f : FailedAsk) (since : ℕ) (run : List Turn) (s : State) → Run site run s → ℕ → Type 0
IsFailureSince site f since [] s new n = ⊥
IsFailureSince site f since (t ∷ past) s (old, legal, step) n =
    (t.out ≢ None)
    × ((((step_failures old t s step).failed ≡ Some f) × (since ≡ (moved old t.event).clock) × (n ≡ (step_failures old t s step).uses))
    ⊎ (((step_failures old t s step).failed ≢ Some f)
    × ((m : ℕ) × IsFailureSince site f since past old legal m × (n ≡ m + (is_one (step_failures old t s step).failed + (step_failures old t s step).uses)))))

-- For 30 seconds the server counts as one that fails to answer that question, where since then fewer failures were
-- cached and used than there is room for, and memory ran out in no step.
abbrev pub FindsFailures : (site : Site) (run : List Turn) (s : State) → Run site run s → Type 0
FindsFailures site run s legal =
    (f : FailedAsk) (since n later : ℕ) → IsFailureSince site f since run s legal n → n < (s.stores).failures_cap → later - since < 30000 → is_failed later f (s.stores).failures ≡ true

abbrev pub FailureIsFound : Type 0
FailureIsFound = (site : Site) (run : List Turn) (s : State) (legal : Run site run s) → FindsFailures site run s legal
