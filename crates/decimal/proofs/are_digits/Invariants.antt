use Rattle.std.proofs.Common.{◌≡◌, drop}
use Rattle.decimal.specs.Digits.{are_digits}
use Rattle.decimal.proofs.are_digits.Given as goal

abbrev pub invariant-loop-byte : goal.invariant-loop-byte
invariant-loop-byte l = are_digits (drop l.byte-index l.word) ≡ are_digits l.word
