use Rattle.std.proofs.Common.{ap, List}
use Rattle.zone.specs.Zones.{Zone}
use Rattle.world_text.specs.WorldTexts.{zones_from}
use Rattle.world_text.proofs.Building.{zones_step, zones_stop, zones_end, refused_by}
use Rattle.world_text.proofs.build.zones.Goals as goal

pub loop-block-init : goal.loop-block-init
loop-block-init g c = ap (λ (zs : List Zone). zones_from zs c.args.blocks.now) c.in_ok-zones.ensures.items

pub returns-in_err-zone : goal.returns-in_err-zone
returns-in_err-zone g c =
    refused_by c.from_residual-in_err-zone.result c.in_err-zone.field-0.0 _ _ c.from_residual-in_err-zone.ensures.1
    (zones_stop c.args.blocks.now c.loop-block.zones.items c.loop-block.block-index c.block-item.result c.in_err-zone.field-0.0
    c.loop-block-test.true c.block-item.is c.in_err-zone.ensures c.loop-block.invariant)

pub loop-block-preserved : goal.loop-block-preserved
loop-block-preserved g c =
    zones_step c.args.blocks.now c.loop-block.zones.items c.push.new.self.items c.loop-block.block-index c.block-item.result c.in_ok-zone.field-0
    c.loop-block-test.true c.block-item.is c.in_ok-zone.ensures c.in_ok-push.ensures.items c.loop-block.invariant

pub returns : goal.returns
returns g c = zones_end c.args.blocks.now c.loop-block.zones.items c.loop-block.block-index c.loop-block-test.false c.loop-block.invariant
