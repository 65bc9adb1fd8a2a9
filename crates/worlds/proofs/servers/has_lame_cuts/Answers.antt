use Rattle.std.proofs.Common.{sym, ◌∙◌}
use Rattle.worlds.specs.Rules.{has_lame_cut}
use Rattle.worlds.proofs.Members.{any_none, any_more}
use Rattle.worlds.proofs.servers.has_lame_cuts.Goals as goal

pub loop-zone-preserved : goal.loop-zone-preserved
loop-zone-preserved g c =
    any_more (has_lame_cut c.args.catalog.now c.args.hosts.now) c.args.zones.now c.loop-zone.zone-index c.zone-item.result c.loop-zone-test.true c.zone-item.is c.loop-zone.invariant
    (sym c.in_ok-has_lame_cut.ensures ∙ c.if-branch.false)

pub returns : goal.returns
returns g c = any_none (has_lame_cut c.args.catalog.now c.args.hosts.now) c.args.zones.now c.loop-zone.zone-index c.loop-zone-test.false c.loop-zone.invariant
