use Rattle.std.proofs.Common.{◌∙◌, ap, List}
use Rattle.std.proofs.lemmas.List.{take_all}
use Rattle.dname.specs.Labels.{same_name}
use Rattle.rdata.specs.Records.{Record}
use Rattle.zone.specs.Last.{owner_of, alias_of, last_target}
use Rattle.zone.proofs.Last.{last_step}
use Rattle.zone.proofs.aliases.last_targets.Goals as goal

pub loop-record-preserved : goal.loop-record-preserved
loop-record-preserved g c = λ q.
    last_step same_name owner_of alias_of q c.args.records.now c.loop-record.record-index c.record-item.result _ _ c.loop-record-test.true c.record-item.is (c.loop-record.invariant q) (c.in_ok-note_alias.ensures q)

pub returns : goal.returns
returns g c = λ q.
    c.loop-record.invariant q ∙ ap (λ (rs : List Record). last_target q rs) (take_all c.loop-record.record-index c.args.records.now c.loop-record-test.false)
