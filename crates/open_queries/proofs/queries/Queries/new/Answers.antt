use Rattle.open_queries.proofs.Indexed.{none_indexed}
use Rattle.open_queries.proofs.queries.Queries.new.Goals as goal

pub invariant_of-result : goal.invariant_of-result
invariant_of-result g c = none_indexed c.new.result c.new-2.result.entries c.new-3.result.entries c.new-4.result c.new.ensures.empty c.new-2.ensures.empty c.new-3.ensures.empty c.new-4.ensures
