use Rattle.std.proofs.Common.{◌≡◌, drop}
use Rattle.world_text.specs.WorldTexts.{zones_from, zones_of}
use Rattle.world_text.proofs.build.zones.Given as goal

abbrev pub invariant-loop-block : goal.invariant-loop-block
invariant-loop-block g l = zones_from l.zones.items (drop l.block-index l.blocks) ≡ zones_of l.blocks
