use Rattle.std.proofs.Common.{◌-◌, ℕ, List, length, take, ap, arith}
use Rattle.world_text.specs.WorldTexts.{Block}
use Rattle.world_text.proofs.Reading.{tail_shorter}
use Rattle.world_text.proofs.open_block.OpenBlock.block.Goals as goal

pub slice_bounds-result-count : goal.slice_bounds-result-count
slice_bounds-result-count g c = omega (arith, ap length c.as_bytes-text.ensures.value, tail_shorter c.args.left.now c.args.self.behind.now c.requires)

pub returns : goal.returns
returns g c =
    let block : List ℕ → Block = λ text.
    record { origin = c.args.self.origin; is_local = c.args.self.is_local; line = c.args.self.line; text = take (length text - length c.args.left.now) text } in
    ap block c.as_bytes-text.ensures.value
