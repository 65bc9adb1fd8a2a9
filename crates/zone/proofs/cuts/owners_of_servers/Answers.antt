use Rattle.std.proofs.Common.{◌∙◌, ◌&&◌, ap, List}
use Rattle.std.proofs.lemmas.List.{take_all}
use Rattle.rdata.specs.Records.{Record}
use Rattle.zone.specs.Zones.{ns_type}
use Rattle.zone.specs.Look.{is_owned, is_type, owns}
use Rattle.zone.proofs.Members.{any_step}
use Rattle.zone.proofs.cuts.owners_of_servers.Goals as goal

pub loop-record-preserved : goal.loop-record-preserved
loop-record-preserved g c = λ q.
    any_step (λ (r : Record). is_owned q r && is_type ns_type r) c.args.records.now c.loop-record.record-index c.record-item.result _ _ c.loop-record-test.true c.record-item.is (c.loop-record.invariant q) (c.in_ok-note_owner.ensures q)

pub returns : goal.returns
returns g c = λ q.
    c.loop-record.invariant q ∙ ap (λ (rs : List Record). owns ns_type q rs) (take_all c.loop-record.record-index c.args.records.now c.loop-record-test.false)
