use Rattle.suffixes.proofs.Steps.{walk_begins}
use Rattle.suffixes.proofs.earlier.Suffixes.longest.Goals as goal

pub loop-label-init : goal.loop-label-init
loop-label-init g c = walk_begins c.args.self.now c.args.name.now c.wire-rest.result.now c.well_formed_law.ensures c.wire-rest.ensures
