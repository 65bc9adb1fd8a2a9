-- How many asks in datagrams are open.
use Rattle.std.specs.Prelude.{ℕ, ◌-◌, ◌/◌, min, max}

-- At most 1,500, and of a process that may have so many descriptors all but 400, or half of a few.
abbrev pub most_for : ℕ → ℕ
most_for descriptors = min 1_500 (max (descriptors - 400) (descriptors / 2))
