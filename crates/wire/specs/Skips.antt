-- Records that are read without their owners' names.
use Rattle.std.specs.Prelude.{◌≡◌, ℕ, Option, Some, None, Result, Ok, Err}
use Rattle.rdata.specs.Records.{Record}
use Rattle.wire.specs.declared.error.WireError.{WireError}

-- A refusal is that of the record; an end is that of a record that is skipped; without an end the record is not
-- skipped.
abbrev pub IsSkipping : Result (Option ℕ) WireError → Result (Option Record × ℕ) WireError → Type 0
IsSkipping (Err e) read = read ≡ Err e
IsSkipping (Ok (Some end)) read = read ≡ Ok (None, end)
IsSkipping (Ok None) read = (end : ℕ) → read ≡ Ok (None, end) → ⊥
