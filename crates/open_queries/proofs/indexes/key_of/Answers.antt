use Rattle.std.proofs.Common.{◌∙◌}
use Rattle.open_queries.proofs.indexes.key_of.Goals as goal

pub returns : goal.returns
returns g c = c.copied.ensures ∙ c.get.ensures.value
