-- On times to live.
use Rattle.std.proofs.Common.{◌≡◌, ℕ, ◌≤◌, not, arith}
use Rattle.std.proofs.lemmas.Bool.Decides.{nat_tests}
use Rattle.std.proofs.Math.Nat.{min-eq_left}
use Rattle.std.specs.Prelude.{nat_le, nat_lt}
use Rattle.rdata.specs.Records.{greatest_ttl}
use Rattle.cache.specs.Cached.{kept_ttl}

-- A link is kept for the whole of a time to live that a record may have.
pub whole_ttl : (ttl : ℕ) → ttl ≤ greatest_ttl → kept_ttl ttl ≡ ttl
whole_ttl ttl h = min-eq_left h

pub not_younger : (a b : ℕ) → not (nat_lt a b) ≡ nat_le b a
not_younger a b = grind (arith, nat_tests)
