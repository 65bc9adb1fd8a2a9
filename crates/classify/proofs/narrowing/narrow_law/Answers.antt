use Rattle.classify.proofs.Narrowings.{narrows}
use Rattle.classify.proofs.narrowing.narrow_law.Goals as goal

pub returns : goal.returns
returns g c = narrows c.args.zone.now c.well_formed_law.ensures
