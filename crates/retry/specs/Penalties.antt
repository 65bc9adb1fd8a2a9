-- Penalties of servers by their address: 0 to 8, and 0 where nothing is kept.
use Rattle.std.specs.Prelude.{ℕ, ◌+◌, ◌/◌, ◌≤◌, Bool, nat_eq, min, Option, Some, None, List, [], ◌∷◌}
use Rattle.std.specs.Option.{unwrap_or}
use Rattle.std.specs.Cmp.Lexicographic.{pointwise}
use Rattle.std.specs.Map.{lookup, remove_entry}
use Rattle.rdata.specs.declared.addr.Addr.{Addr}
use Rattle.lru_laws.specs.Orders.{kept}

abbrev pub same_addr : Addr → Addr → Bool
same_addr a b = pointwise nat_eq a.0 b.0

abbrev pub penalty : Addr → List (Addr × ℕ) → ℕ
penalty a es = unwrap_or (lookup (same_addr a) es) 0

-- An ask of this address timed out: two more, up to 8.
abbrev pub raised : Addr → List (Addr × ℕ) → ℕ
raised a es = min (penalty a es + 2) 8

abbrev pub timed_out : Addr → ℕ → List (Addr × ℕ) → List (Addr × ℕ)
timed_out a cap es = kept same_addr cap a (raised a es) es

abbrev pub answered_from : Option ℕ → Addr → List (Addr × ℕ) → List (Addr × ℕ)
answered_from None a es = es
answered_from (Some p) a es = (a, p / 2) ∷ remove_entry (same_addr a) es

-- This address answered: half of what is kept, rounded down, also where that is 0.
abbrev pub answered : Addr → List (Addr × ℕ) → List (Addr × ℕ)
answered a es = answered_from (lookup (same_addr a) es) a es

abbrev pub AreAtMost : ℕ → List (Addr × ℕ) → Type 0
AreAtMost most [] = Unit {0}
AreAtMost most (e ∷ es) = (e.1 ≤ most) × AreAtMost most es
