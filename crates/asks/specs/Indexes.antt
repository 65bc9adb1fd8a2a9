-- The two indexes of what open queries wait for: the query of each ask, and all due moments in order.
use Rattle.std.specs.Prelude.{◌≡◌, ℕ, Bool, false, nat_eq, ◌&&◌, Option, Some, None, List}
use Rattle.std.specs.BTreeMap.{is_at}
use Rattle.std.specs.Cmp.Lexicographic.{pointwise}
use Rattle.std.specs.List.{list_any}
use Rattle.std.specs.Map.{lookup}
use Rattle.std.specs.Ordering.{nat_cmp, ordering_then}
use Rattle.std.specs.declared.cmp.Ordering.{Ordering}
use Rattle.asks.specs.declared.ask.AskKey.{AskKey}
use Rattle.asks.specs.declared.ask.Waiting.{Waiting}
use Rattle.asks.specs.Waits.{waiting}

-- What `==` of asks answers.
abbrev pub same_ask : AskKey → AskKey → Bool
same_ask a b = nat_eq a.socket b.socket && (pointwise nat_eq (a.server).0 (b.server).0 && nat_eq a.id b.id)

-- Due moments first, then the queries' numbers.
abbrev pub due_cmp : ℕ × ℕ → ℕ × ℕ → Ordering
due_cmp a b = ordering_then (nat_cmp a.0 b.0) (nat_cmp a.1 b.1)

-- It is that query's number.
abbrev pub points_to : ℕ → Option ℕ → Bool
points_to query None = false
points_to query (Some number) = nat_eq number query

-- It is that ask.
abbrev pub is_ask : AskKey → Option AskKey → Bool
is_ask ask None = false
is_ask ask (Some own) = same_ask own ask

abbrev pub has_ask : AskKey → Option Waiting → Bool
has_ask ask None = false
has_ask ask (Some w) = is_ask ask w.ask

abbrev pub is_due : ℕ → Option Waiting → Bool
is_due due None = false
is_due due (Some w) = nat_eq w.due due

-- What stands in an index by asks, and in one by due moments.
abbrev pub points : List (AskKey × ℕ) → AskKey → ℕ → Bool
points index ask query = points_to query (lookup (same_ask ask) index)

abbrev pub lists : List (ℕ × ℕ) → ℕ → ℕ → Bool
lists index due query = list_any (is_at (due_cmp (due, query))) index

-- The index by asks leads from each open ask to its query and has nothing else; that by due moments has the due
-- moment of each query and nothing else.
pub record AreIndexes (asks : List (ℕ × Waiting)) (by_ask : List (AskKey × ℕ)) (by_due : List (ℕ × ℕ)) : Type 0 where
  pub asked : (ask : AskKey) (query : ℕ) → points by_ask ask query ≡ has_ask ask (waiting asks query)
  pub due : (due query : ℕ) → lists by_due due query ≡ is_due due (waiting asks query)
