-- How long what is kept lives. A time to live is in seconds; moments are in milliseconds.
use Rattle.std.specs.Prelude.{ℕ, ◌-◌, ◌*◌, ◌/◌, Bool, nat_lt}

-- Whether what has been kept since that moment is younger than its time to live. What was kept in what is now the
-- future has age 0.
abbrev pub is_young : ℕ → ℕ → ℕ → Bool
is_young now ttl since = nat_lt (now - since) (1000 * ttl)

-- The seconds that are left of a time to live that began at that moment, its age in whole seconds; 0 where it is over.
abbrev pub seconds_left : ℕ → ℕ → ℕ → ℕ
seconds_left now ttl since = ttl - (now - since) / 1000
