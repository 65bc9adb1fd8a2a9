use Rattle.wire.specs.Entries.{section_from}
use Rattle.wire.proofs.Walks.{gives_failed}
use Rattle.wire.proofs.Rows.{section_on, section_fails, section_ends}
use Rattle.wire.proofs.records.section_at.Goals as goal

pub returns-in_err-found : goal.returns-in_err-found
returns-in_err-found g c =
    gives_failed (λ x. (x.0, x.1)) c.from_residual.result c.in_err-found.field-0.0 (section_from c.args.count c.args.bytes.now c.args.at) c.from_residual.ensures.1
    (section_fails c.args.bytes.now c.args.count c.args.at c.loop.counter c.loop.place c.loop.records c.in_err-found.field-0.0 c.loop.invariant c.loop-test.true c.in_err-found.ensures.is)

pub loop-preserved : goal.loop-preserved
loop-preserved g c =
    section_on c.args.bytes.now c.args.count c.args.at c.loop.counter c.loop.place c.loop.records c.keep.new.records c.in_ok-found.found c.in_ok-found.next c.loop.invariant
    c.loop-test.true c.in_ok-found.ensures.is c.in_ok-keep.ensures

pub returns : goal.returns
returns g c = section_ends c.args.bytes.now c.args.count c.args.at c.loop.counter c.loop.place c.loop.records c.loop.invariant c.loop-test.false
