use Rattle.std.proofs.Common.{◌∙◌, List, ap}
use Rattle.rdata.specs.Records.{Record}
use Rattle.rdata.specs.Selected.{is_at, records_at}
use Rattle.rdata.specs.Sets.{one_set}
use Rattle.rdata.specs.Types.{type_number}
use Rattle.classify.proofs.Walking.{first_again}
use Rattle.classify.proofs.sections.first_set_in.Goals as goal

pub returns : goal.returns
returns g c =
    let kind = type_number c.args.kind in
    c.in_ok-set_at.ensures ∙ (ap (λ (rs : List Record). one_set (records_at c.args.owner.now kind rs)) (c.as_slice.ensures ∙ c.in_ok-first.ensures)
    ∙ ap one_set (first_again (is_at c.args.owner.now kind) c.args.most c.args.section))
