use Rattle.std.proofs.Common.{◌≡◌, take}
use Rattle.world_text.specs.WorldTexts.{locals_of}
use Rattle.world_text.proofs.build.locals.Given as goal

abbrev pub invariant-loop-block : goal.invariant-loop-block
invariant-loop-block g l = l.locals.items ≡ locals_of (take l.block-index l.blocks)
