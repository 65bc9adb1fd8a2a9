use Rattle.std.proofs.Common.{◌≤◌, ◌∙◌, true, false, take, sym, ap, subst}
use Rattle.std.specs.Prelude.{min}
use Rattle.rdata.specs.Records.{Record, greatest_ttl}
use Rattle.rdata.specs.Selected.{is_at, records_at}
use Rattle.rdata.specs.Types.{type_number}
use Rattle.rdata.proofs.Selected.{lowest_more, lowest_fits}
use Rattle.rdata.proofs.sets.lowest_ttl_at.Goals as goal
use Rattle.rdata.proofs.sets.lowest_ttl_at.Goals.{then-is_at, else-is_at}

pub loop-rr-preserved : goal.loop-rr-preserved
loop-rr-preserved g c = elim c.if-is_at.branch [
  | then-is_at w ↦ lowest_more (is_at c.args.owner.now (type_number c.args.kind)) c.args.records.now c.loop-rr.lowest c.if-is_at.lowest c.loop-rr.rr-index c.rr-item.result true
      c.loop-rr-test.true c.rr-item.is (sym w.if-is_at.true ∙ c.is_at.ensures) c.loop-rr.invariant
      (w.lowest-is ∙ (w.min-lowest.ensures ∙ ap (λ (r : Record). min r.ttl c.loop-rr.lowest) c.rr.view_is))
  | else-is_at w ↦ lowest_more (is_at c.args.owner.now (type_number c.args.kind)) c.args.records.now c.loop-rr.lowest c.if-is_at.lowest c.loop-rr.rr-index c.rr-item.result false
      c.loop-rr-test.true c.rr-item.is (sym w.if-is_at.false ∙ c.is_at.ensures) c.loop-rr.invariant w.lowest-is
]

pub returns-clause-most : goal.returns-clause-most
returns-clause-most g c = subst (λ n. n ≤ greatest_ttl) (sym c.loop-rr.invariant) (lowest_fits (records_at c.args.owner.now (type_number c.args.kind) (take c.loop-rr.rr-index c.args.records.now)))
