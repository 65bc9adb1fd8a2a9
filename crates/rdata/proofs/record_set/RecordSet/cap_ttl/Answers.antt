use Rattle.std.proofs.Common.{map, ◌∙◌, ap}
use Rattle.rdata.specs.Caps.{capped}
use Rattle.rdata.specs.Rows.{plain_rows}
use Rattle.rdata.proofs.SetRows.{capped_rows}
use Rattle.rdata.proofs.record_set.RecordSet.cap_ttl.Goals as goal

pub returns : goal.returns
returns g c =
    ap (λ n. plain_rows c.self.inside.owner n c.self.inside.values) c.min-self-inside.ensures
    ∙ (capped_rows c.self.inside.owner c.self.inside.ttl c.args.most c.self.inside.values ∙ ap (map (capped c.args.most)) c.self.view_is)
