use Rattle.std.proofs.Common.{◌∙◌, ap}
use Rattle.rdata.specs.Sets.{lowest_ttl}
use Rattle.rdata.proofs.SetRows.{lowest_row}
use Rattle.rdata.proofs.record_set.RecordSet.ttl.Goals as goal

pub returns-clause-lowest : goal.returns-clause-lowest
returns-clause-lowest g c = lowest_row c.self.inside.owner c.self.inside.ttl c.self.inside.values c.self.invariant c.len.ensures.some ∙ ap lowest_ttl c.self.view_is
