-- How often servers' names had their turn for a query, counted by the rules of its steps; that it is 64 times at most;
-- and that no step takes more than 488 rules.
use Rattle.std.specs.Prelude.{◌≡◌, ℕ, zero, suc, ◌+◌, ◌≤◌, cond, Option, Some, None, List, [], ◌∷◌}
use Rattle.limits.specs.Limits.{max_look_ups}
use Rattle.causes.specs.declared.cause.Cause.TheVariants.{TooManyLookUps}
use Rattle.resolution.specs.Jobs.{Home, Fail, Point}
use Rattle.resolution.specs.Rules.{Rule, takes, asks, follows, restarts, skips, hears, descends, gives_up, Rules}
use Rattle.runs.specs.States.{Served, Nobody, Own, OpenQuery, Turn, Site, State, moved}
use Rattle.runs.specs.Steps.{Step}
use Rattle.runs.specs.Runs.{Run, is_for}
use Rattle.laws.specs.Opens.{Call, step_call}

-- ---- of one call

-- A server's name has its turn: a link is found for it, or its address is sought.
abbrev pub rule_look_ups : (home : Home) (now : ℕ) (a b : Point) → Rule home now a b → ℕ
rule_look_ups home now a b (takes l t f u j) = 0
rule_look_ups home now a b (asks c t m u j) = 0
rule_look_ups home now a b (follows l r t is few u j e) = 0
rule_look_ups home now a b (restarts l d front back t is whole fresh dead u j e) = 0
rule_look_ups home now a b (skips n s u rest failures t searches passes free v j e) = 0
rule_look_ups home now a b (hears before around rest n l marks t turn f h u j) = 1
rule_look_ups home now a b (descends s rest n c t turn m u j) = 1
rule_look_ups home now a b (gives_up s around rest t up u j e) = 0

abbrev pub rules_look_ups : (home : Home) (now count : ℕ) (a b : Point) → Rules home now count a b → ℕ
rules_look_ups home now zero a b same = 0
rules_look_ups home now (suc n) a b (mid, before, rule) = rules_look_ups home now n a mid before + rule_look_ups home now mid b rule

abbrev pub call_look_ups : (s : State) → Option (Call s) → ℕ
call_look_ups s None = 0
call_look_ups s (Some call) = rules_look_ups (s.site).home s.clock (call.advances).count (call.advances).first (call.advances).last (call.advances).rules

-- ---- of a step, and of the steps that serve a query

abbrev pub step_look_ups : (old : State) (t : Turn) (new : State) → Step old t.event t.served t.out new → ℕ
step_look_ups old t new step = call_look_ups (moved old t.event) (step_call old t new step)

abbrev pub look_ups_of : (k : ℕ) (site : Site) (run : List Turn) (s : State) → Run site run s → ℕ
look_ups_of k site [] s new = 0
look_ups_of k site (t ∷ past) s (old, legal, step) = cond (is_for k t.served) (step_look_ups old t s step) 0 + look_ups_of k site past old legal

-- The turns for the query that a step serves, this step's among them. A query that is over in its own step, where it
-- has no number, has no other step.
abbrev pub look_ups_by : (served : Served) (site : Site) (past : List Turn) (old : State) (t : Turn) (new : State) → Run site past old → Step old t.event t.served t.out new → ℕ
look_ups_by Nobody site past old t new legal step = 0
look_ups_by Own site past old t new legal step = step_look_ups old t new step
look_ups_by (OpenQuery k) site past old t new legal step = step_look_ups old t new step + look_ups_of k site past old legal

-- ---- laws

-- A query has at most 64 turns of servers' names.
abbrev pub HasFewLookUps : (site : Site) (run : List Turn) (s : State) → Run site run s → Type 0
HasFewLookUps site run s legal = (k : ℕ) → look_ups_of k site run s legal ≤ max_look_ups

abbrev pub FewLookUps : Type 0
FewLookUps = (site : Site) (run : List Turn) (s : State) (legal : Run site run s) → HasFewLookUps site run s legal

-- A call that fails since its look-ups are used up is one of a query that had 64.
abbrev pub HadAllLookUps : (site : Site) (past : List Turn) (old : State) (t : Turn) (new : State) → Run site past old → Step old t.event t.served t.out new → Type 0
HadAllLookUps site past old t new legal step =
    (call : Call (moved old t.event)) → step_call old t new step ≡ Some call → call.next ≡ Fail TooManyLookUps → look_ups_by t.served site past old t new legal step ≡ max_look_ups

abbrev pub LookUpsAreSpent : Type 0
LookUpsAreSpent =
    (site : Site) (past : List Turn) (old : State) (t : Turn) (new : State) (legal : Run site past old) (step : Step old t.event t.served t.out new) → HadAllLookUps site past old t new legal step

-- No step takes more rules than these.
abbrev pub IsShort : (old : State) (t : Turn) (new : State) → Step old t.event t.served t.out new → Type 0
IsShort old t new step = (call : Call (moved old t.event)) → step_call old t new step ≡ Some call → (call.advances).count ≤ 488

abbrev pub StepsAreShort : Type 0
StepsAreShort = (site : Site) (past : List Turn) (old : State) (t : Turn) (new : State) → Run site past old → (step : Step old t.event t.served t.out new) → IsShort old t new step

-- Why a query fails since its look-ups are used up. A run shows events and actions alone, and 64 look-ups may send
-- nothing. So there are states through which these steps lead, by rules that take 64 turns of servers' names for the
-- query that is served. The law above says the same of whichever states are given.
pub record HasLookedUp (port : ℕ) (home : Home) (turn : Turn) (past : List Turn) : Type 0 where
  pub site : Site
  pub same_port : site.port ≡ port
  pub same_home : site.home ≡ home
  pub old : State
  pub new : State
  pub legal : Run site past old
  pub step : Step old turn.event turn.served turn.out new
  pub many : look_ups_by turn.served site past old turn new legal step ≡ max_look_ups
