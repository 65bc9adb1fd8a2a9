-- Terms for the results of readers. A reader is exact, but for running out of memory.
use Rattle.std.specs.Prelude.{◌≡◌, ℕ, Result, Ok, Err}
use Rattle.wire.specs.declared.error.WireError.{WireError}
use Rattle.wire.specs.declared.error.WireError.TheVariants.{Short, BadLabel, PointerNotEarlier, NameTooLong, BadRdataLength, BadRdataName, TrailingBytes, OverLimit, Memory}

-- When a reader may refuse so: for this very refusal; out of memory at any time.
abbrev pub Fails : {X : Type 0} → WireError → Result X WireError → Type 0
Fails Memory read = Unit {0}
Fails Short read = read ≡ Err Short
Fails BadLabel read = read ≡ Err BadLabel
Fails PointerNotEarlier read = read ≡ Err PointerNotEarlier
Fails NameTooLong read = read ≡ Err NameTooLong
Fails BadRdataLength read = read ≡ Err BadRdataLength
Fails BadRdataName read = read ≡ Err BadRdataName
Fails TrailingBytes read = read ≡ Err TrailingBytes
Fails OverLimit read = read ≡ Err OverLimit

-- A reader's result is that of these bytes, seen by `view`.
abbrev pub Gives : {X Y : Type 0} → (X → Y) → Result X WireError → Result Y WireError → Type 0
Gives view (Ok x) read = read ≡ Ok (view x)
Gives view (Err e) read = Fails e read

-- One reader, and then another one on its result.
abbrev pub and_then : {X Y : Type 0} → Result X WireError → (X → Result Y WireError) → Result Y WireError
and_then (Ok x) next = next x
and_then (Err e) next = Err e

-- The end in a reader's result, without the value.
abbrev pub end_of : {X : Type 0} → Result (X × ℕ) WireError → Result ℕ WireError
end_of (Ok (x, end)) = Ok end
end_of (Err e) = Err e
