-- What open queries wait for, each known by its number.
use Rattle.std.specs.Prelude.{◌≡◌, ◌≢◌, ℕ, ◌<◌, ◌≤◌, ◌⊎◌, nat_eq, Option, Some, None, List}
use Rattle.std.specs.Map.{lookup}
use Rattle.asks.specs.declared.ask.AskKey.{AskKey}
use Rattle.asks.specs.declared.ask.Waiting.{Waiting}

-- What the query of this number waits for, where there is one.
abbrev pub waiting : List (ℕ × Waiting) → ℕ → Option Waiting
waiting asks query = lookup (nat_eq query) asks

-- No other query than this one has the ask.
abbrev pub IsFreeFor : List (ℕ × Waiting) → ℕ → Option AskKey → Type 0
IsFreeFor asks query None = Unit {0}
IsFreeFor asks query (Some ask) = (other : ℕ) (w : Waiting) → waiting asks other ≡ Some w → w.ask ≡ Some ask → other ≡ query

-- All queries wait for what they did.
abbrev pub AreSame : List (ℕ × Waiting) → List (ℕ × Waiting) → Type 0
AreSame old new = (query : ℕ) → waiting new query ≡ waiting old query

-- This query waits for that or, at None, is gone; all others wait for what they did.
pub record IsChanged (query : ℕ) (now : Option Waiting) (old new : List (ℕ × Waiting)) : Type 0 where
  pub now_is : waiting new query ≡ now
  pub others : (other : ℕ) → other ≢ query → waiting new other ≡ waiting old other

-- The query whose open ask it is, and the only one.
pub record HasAsk (asks : List (ℕ × Waiting)) (ask : AskKey) (query : ℕ) : Type 0 where
  pub now : Waiting
  pub waits : waiting asks query ≡ Some now
  pub ask_is : now.ask ≡ Some ask
  pub only : (other : ℕ) (w : Waiting) → waiting asks other ≡ Some w → w.ask ≡ Some ask → other ≡ query

abbrev pub IsFound : List (ℕ × Waiting) → AskKey → Option ℕ → Type 0
IsFound asks ask None = (query : ℕ) (w : Waiting) → waiting asks query ≡ Some w → w.ask ≢ Some ask
IsFound asks ask (Some query) = HasAsk asks ask query

-- Which of two is due first: the older one among equals, which has the lower number.
abbrev pub IsNoLater : ℕ → ℕ → ℕ → ℕ → Type 0
IsNoLater due query other_due other = (due < other_due) ⊎ ((due ≡ other_due) × (query ≤ other))

-- The query that is due first, and its due moment.
pub record IsEarliestWait (asks : List (ℕ × Waiting)) (due query : ℕ) : Type 0 where
  pub now : Waiting
  pub waits : waiting asks query ≡ Some now
  pub due_is : now.due ≡ due
  pub first : (other : ℕ) (w : Waiting) → waiting asks other ≡ Some w → IsNoLater due query w.due other

abbrev pub IsEarliest : List (ℕ × Waiting) → Option (ℕ × ℕ) → Type 0
IsEarliest asks None = (query : ℕ) → waiting asks query ≡ None
IsEarliest asks (Some first) = IsEarliestWait asks first.0 first.1
