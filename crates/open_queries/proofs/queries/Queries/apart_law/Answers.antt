use Rattle.std.proofs.Common.{subst, List}
use Rattle.runs.specs.States.{Open, AreApart}
use Rattle.open_queries.proofs.Apart.{values-apart}
use Rattle.open_queries.proofs.queries.Queries.apart_law.Goals as goal

pub returns : goal.returns
returns g c = subst (λ (qs : List Open). AreApart qs) c.self.view_is (values-apart c.self.inside.slots (c.self.invariant).apart)
