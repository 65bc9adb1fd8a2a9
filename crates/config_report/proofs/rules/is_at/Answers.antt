use Rattle.std.proofs.Common.{◌∙◌, ap}
use Rattle.dname.specs.Labels.{same_name}
use Rattle.rdata.specs.Records.{Record}
use Rattle.config_report.proofs.Names.{same_swapped}
use Rattle.config_report.proofs.rules.is_at.Goals as goal

pub returns : goal.returns
returns g c =
    c.is.ensures ∙ (same_swapped c.args.name.now c.record.inside.owner ∙ ap (λ (r : Record). same_name r.owner c.args.name.now) c.record.view_is)
