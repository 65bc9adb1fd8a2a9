use Rattle.std.proofs.Common.{ℕ, ◌+◌, Option, Some, None}

-- a place counted from `n` bytes earlier
abbrev pub shifted : ℕ → Option ℕ → Option ℕ
shifted n None = None
shifted n (Some k) = Some (n + k)
