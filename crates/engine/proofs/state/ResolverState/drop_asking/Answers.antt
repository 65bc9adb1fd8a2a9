use Rattle.std.proofs.Common.{inl, refl}
use Rattle.engine.specs.ResolverStates.{state_of}
use Rattle.engine.proofs.Found.{drops}
use Rattle.engine.proofs.state.ResolverState.drop_asking.Goals as goal

pub forget-requires : goal.forget-requires
forget-requires g c = (c.in-Some.ensures.query, c.in-Some.ensures.one)

pub returns-in-Some : goal.returns-in-Some
returns-in-Some g c = drops (state_of c.args.self.now) c.args.ask.now c.in-Some.number (state_of c.forget.new.self) c.in-Some.ensures c.forget.ensures

pub returns-in_default : goal.returns-in_default
returns-in_default g c = inl (rw c.in_default.is at c.asking.ensures, refl)
