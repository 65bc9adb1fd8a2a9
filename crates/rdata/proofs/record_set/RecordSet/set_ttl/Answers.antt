use Rattle.std.proofs.Common.{map, ◌∙◌, ap}
use Rattle.rdata.specs.Sets.{with_ttl}
use Rattle.rdata.proofs.SetRows.{timed_rows}
use Rattle.rdata.proofs.record_set.RecordSet.set_ttl.Goals as goal

pub returns : goal.returns
returns g c = timed_rows c.self.inside.owner c.self.inside.ttl c.args.ttl c.self.inside.values ∙ ap (map (with_ttl c.args.ttl)) c.self.view_is
