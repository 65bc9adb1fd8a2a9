use Rattle.std.proofs.Common.{◌≡◌, ◌≤◌, drop, true}
use Rattle.decimal.specs.Digits.{are_digits, value_from}
use Rattle.decimal.proofs.value.Given as goal

abbrev pub invariant-loop-byte : goal.invariant-loop-byte
invariant-loop-byte l = record {
  fits : l.value ≤ l.limit;
  left : are_digits (drop l.byte-index l.digits) ≡ true;
  same : value_from l.value (drop l.byte-index l.digits) ≡ value_from 0 l.digits;
}
