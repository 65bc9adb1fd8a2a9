-- How long loops wait.
use Rattle.std.specs.Prelude.{◌≡◌, ◌*◌}
use Rattle.std.specs.Duration.{as_nanos}
use Rattle.std.specs.declared.time.Duration.{Duration}

-- It is 250 milliseconds.
abbrev pub IsSlice : Duration → Type 0
IsSlice d = as_nanos d ≡ 250 * 1_000_000
