use Rattle.std.proofs.Common.{true}
use Rattle.iterate.specs.Moves.{IsNextFailed}
use Rattle.iterate.proofs.Accepted.{on_err}
use Rattle.iterate.proofs.Passed.{passing_on, passing_stops}
use Rattle.iterate.proofs.serving.pass_over.Goals as goal

pub loop-search-preserved : goal.loop-search-preserved
loop-search-preserved g c =
    let failed : IsNextFailed c.args.now c.loop-search.search c.loop-search.stores c.is_next_failed.new.stores true = rw c.if-branch.true at c.in_ok-is_next_failed.ensures.is in
    passing_on c.args.now c.args.search.now c.args.stores.now c.loop-search.search c.loop-search.stores c.loop-search.passed c.next_address.new.self c.is_next_failed.new.stores c.loop-search.invariant
    failed c.next_address.ensures.given

pub returns-in_err-is_next_failed-clause-part : goal.returns-in_err-is_next_failed-clause-part
returns-in_err-is_next_failed-clause-part g c =
    on_err c.from_residual.result (passing_stops c.args.now c.args.search.now c.args.stores.now c.loop-search.search c.loop-search.stores c.is_next_failed.new.stores c.loop-search.passed c.loop-search.invariant c.in_err-is_next_failed.ensures.part)
