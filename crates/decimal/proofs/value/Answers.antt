use Rattle.std.proofs.Common.{◌<◌, arith}
use Rattle.std.proofs.lemmas.Bool.Decides.{nat_tests}
use Rattle.decimal.specs.Digits.{value_from}
use Rattle.decimal.proofs.Values.{value_over}
use Rattle.decimal.proofs.value.Goals as goal

pub returns-then-next-from : goal.returns-then-next-from
returns-then-next-from c =
    let over : c.args.limit < value_from 0 c.args.digits.now =
    value_over c.args.digits.now c.loop-byte.value c.args.limit c.loop-byte.byte-index c.loop-byte-test.true c.loop-byte.invariant.same (omega arith) in
    grind (arith, nat_tests)
