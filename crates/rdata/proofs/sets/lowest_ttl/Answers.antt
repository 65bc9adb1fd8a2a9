use Rattle.std.proofs.Common.{◌≤◌, min, take, sym, ◌∙◌, ap, subst}
use Rattle.rdata.specs.Records.{Record, greatest_ttl}
use Rattle.rdata.proofs.Selected.{lowest_step, lowest_fits}
use Rattle.rdata.proofs.sets.lowest_ttl.Goals as goal

pub loop-rr-preserved : goal.loop-rr-preserved
loop-rr-preserved g c =
    lowest_step c.args.records.now c.loop-rr.least c.min-least.result c.loop-rr.rr-index c.rr-item.result c.loop-rr-test.true c.rr-item.is c.loop-rr.invariant
    (c.min-least.ensures ∙ ap (λ (r : Record). min r.ttl c.loop-rr.least) c.rr.view_is)

pub returns-clause-most : goal.returns-clause-most
returns-clause-most g c = subst (λ n. n ≤ greatest_ttl) (sym c.loop-rr.invariant) (lowest_fits (take c.loop-rr.rr-index c.args.records.now))
