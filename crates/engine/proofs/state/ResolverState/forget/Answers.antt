use Rattle.std.proofs.Common.{refl}
use Rattle.engine.proofs.state.ResolverState.forget.Goals as goal

pub returns : goal.returns
returns g c = record { query = c.in-Some.open; taken = c.in-Some.ensures; state = refl }

pub unreachable-requires : goal.unreachable-requires
unreachable-requires g c = c.in-None.ensures.0 c.requires.0 c.requires.1.stands c.requires.1.number_is
