use Rattle.wire.specs.Entries.{entry_at}
use Rattle.wire.proofs.Walks.{fails_is, gives_failed}
use Rattle.wire.proofs.records.entry_at.Goals as goal

pub returns-in_err-end-clause-is : goal.returns-in_err-end-clause-is
returns-in_err-end-clause-is g c =
    gives_failed (λ x. (x.0, x.1)) c.from_residual.result c.in_err-end.field-0.0 (entry_at c.args.bytes.now c.args.at) c.from_residual.ensures.1
    (fails_is c.in_err-end.field-0.0 (entry_at c.args.bytes.now c.args.at) c.in_err-end.ensures)
