use Rattle.std.proofs.Common.{◌∙◌}
use Rattle.rdata.specs.Rows.{plain_rows}
use Rattle.rdata.proofs.record_set.RecordSetClone.clone.Goals as goal

pub returns : goal.returns
returns g c = record { cases = (λ i. plain_rows (c.in_ok-clone.ensures.cases i) c.self.inside.ttl (c.in_ok-values.ensures.cases i)) ∙ c.self.view_is }
