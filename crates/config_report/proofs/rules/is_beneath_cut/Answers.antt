use Rattle.std.proofs.Common.{◌∙◌, sym}
use Rattle.zone.specs.Kept.{zone_with}
use Rattle.zone.proofs.Above.{above_cut, above_no_cut, above_shorter}
use Rattle.config_report.proofs.rules.is_beneath_cut.Goals as goal

pub returns-then-is_cut : goal.returns-then-is_cut
returns-then-is_cut g c =
    sym (above_cut (zone_with c.args.origin.now c.args.records.now) c.up.above c.ascend.new.self c.up-test.ensures.above (sym c.is_cut.ensures ∙ c.if-is_cut.true)) ∙ c.up.invariant

pub up-smaller : goal.up-smaller
up-smaller g c = above_shorter c.up.above c.ascend.new.self c.up-test.ensures.above

pub up-preserved : goal.up-preserved
up-preserved g c =
    sym (above_no_cut (zone_with c.args.origin.now c.args.records.now) c.up.above c.ascend.new.self c.up-test.ensures.above (sym c.is_cut.ensures ∙ c.if-is_cut.false)) ∙ c.up.invariant
