use Rattle.std.proofs.Common.{refl}
use Rattle.engine.specs.ResolverStates.{state_of}
use Rattle.engine.proofs.state.ResolverState.take_back.Goals as goal

pub returns : goal.returns
returns g c = record { id = c.id_law.ensures; between = state_of c.drop_asking.new.self; drops = c.drop_asking.ensures; state = refl }
