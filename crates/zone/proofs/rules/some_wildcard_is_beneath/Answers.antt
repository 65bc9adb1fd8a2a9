use Rattle.std.proofs.Common.{sym, ◌∙◌}
use Rattle.zone.specs.Rules.{is_wildcard_beneath}
use Rattle.zone.proofs.Anys.{any_more, any_none}
use Rattle.zone.proofs.rules.some_wildcard_is_beneath.Goals as goal

pub loop-record-preserved : goal.loop-record-preserved
loop-record-preserved g c =
    any_more (is_wildcard_beneath c.args.cuts.now) c.args.records.now c.loop-record.record-index c.record-item.result c.loop-record-test.true c.record-item.is c.loop-record.invariant
    (sym c.in_ok-is_wildcard_beneath.ensures ∙ c.if-branch.false)

pub returns : goal.returns
returns g c = any_none (is_wildcard_beneath c.args.cuts.now) c.args.records.now c.loop-record.record-index c.loop-record-test.false c.loop-record.invariant
