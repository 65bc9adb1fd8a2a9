use Rattle.std.proofs.Common.{◌∙◌}
use Rattle.classify.proofs.Shortened.{some_shortest}
use Rattle.classify.proofs.lifetimes.shortest.Goals as goal

pub returns-clause-value : goal.returns-clause-value
returns-clause-value g c = c.ttl.ensures.lowest ∙ some_shortest c.args.set.now c.len.ensures.some
