use Rattle.std.proofs.Common.{true, false}
use Rattle.iterate.specs.Moves.{ArePassed}
use Rattle.iterate.specs.Views.{move_view}
use Rattle.iterate.proofs.Accepted.{on_err}
use Rattle.iterate.proofs.Parts.{move_of, passed_part, part_of}
use Rattle.iterate.proofs.Passed.{none_passed, passed_so_far, some_passed}
use Rattle.iterate.proofs.serving.go_on.Goals as goal

pub returns-in_ok-skip-in-Ok-true-clause-is : goal.returns-in_ok-skip-in-Ok-true-clause-is
returns-in_ok-skip-in-Ok-true-clause-is g c =
    let passed : ArePassed c.args.now c.args.search c.args.stores.now c.pass_over.new.search c.pass_over.new.stores true = rw c.in-Ok-true.field-0-test at c.in-Ok-true.ensures.is in
    some_passed c.args.home.now c.args.now c.args.job.now c.skip.new.self c.args.search c.args.stores.now c.pass_over.new.search c.pass_over.new.stores passed c.in_ok-skip-in-Ok-true.ensures

pub returns-in-Err-clause-part : goal.returns-in-Err-clause-part
returns-in-Err-clause-part g c = passed_part c.args.home.now c.args.now c.args.job.now c.args.search c.args.stores.now c.pass_over.new.stores c.in-Err.ensures.part

pub returns-in_err-skip-in-Ok-true-clause-part : goal.returns-in_err-skip-in-Ok-true-clause-part
returns-in_err-skip-in-Ok-true-clause-part g c =
    on_err c.from_residual.result (passed_part c.args.home.now c.args.now c.args.job.now c.args.search c.args.stores.now c.pass_over.new.stores
    (passed_so_far c.args.now c.args.search c.args.stores.now c.pass_over.new.search c.pass_over.new.stores c.in-Ok-true.field-0 c.in-Ok-true.ensures.is))

pub returns-in_err-ask_on-in-Ok-false-clause-part : goal.returns-in_err-ask_on-in-Ok-false-clause-part
returns-in_err-ask_on-in-Ok-false-clause-part g c =
    let passed : ArePassed c.args.now c.args.search c.args.stores.now c.pass_over.new.search c.pass_over.new.stores false = rw c.in-Ok-false.field-0-test at c.in-Ok-false.ensures.is in
    let same = none_passed c.args.now c.args.search c.args.stores.now c.pass_over.new.search c.pass_over.new.stores passed in
    on_err c.from_residual-in_err-ask_on-in-Ok-false.result (part_of c.args.home.now c.args.now c.args.job.now c.args.search c.pass_over.new.search c.args.stores.now c.pass_over.new.stores c.ask_on.new.stores same.0 same.1 c.in_err-ask_on-in-Ok-false.ensures.part)

pub returns-in_ok-ask_on-in-Ok-false-clause-is : goal.returns-in_ok-ask_on-in-Ok-false-clause-is
returns-in_ok-ask_on-in-Ok-false-clause-is g c =
    let passed : ArePassed c.args.now c.args.search c.args.stores.now c.pass_over.new.search c.pass_over.new.stores false = rw c.in-Ok-false.field-0-test at c.in-Ok-false.ensures.is in
    let same = none_passed c.args.now c.args.search c.args.stores.now c.pass_over.new.search c.pass_over.new.stores passed in
    move_of c.args.home.now c.args.now c.args.job.now c.args.search c.pass_over.new.search c.args.stores.now c.pass_over.new.stores (move_view c.in_ok-ask_on-in-Ok-false.field-0) c.ask_on.new.job c.ask_on.new.stores
    same.0 same.1 c.in_ok-ask_on-in-Ok-false.ensures.is
