use Rattle.std.proofs.Common.{◌∷◌}
use Rattle.dname.specs.Keys.{at_name}
use Rattle.zone.specs.Tree.{spot}
use Rattle.zone.proofs.Trees.{put_above, put_root}
use Rattle.zone.proofs.nodes.+put_up.Goals as goal

pub returns-in_ok-put_up : goal.returns-in_ok-put_up
returns-in_ok-put_up g t c = λ l ls.
    put_above c.args.up.now c.ascend.new.self (l ∷ ls) c.args.owner.now c.args.place (spot (at_name c.args.nodes.now (l ∷ ls))) _ _ (c.if-ascend.ensures.above) (c.in_ok-put_node.ensures (l ∷ ls)) (c.in_ok-put_up.ensures l ls)

pub returns-else-ascend : goal.returns-else-ascend
returns-else-ascend g t c = λ l ls.
    put_root c.args.up.now l ls c.args.owner.now c.args.place (spot (at_name c.args.nodes.now (l ∷ ls))) _ (c.if-ascend.ensures.root).0 (c.in_ok-put_node.ensures (l ∷ ls))
