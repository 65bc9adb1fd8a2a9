use Rattle.std.proofs.Common.{◌∙◌}
use Rattle.classify.proofs.Servers.{found_name}
use Rattle.classify.proofs.targets.is_one_of.Goals as goal

pub returns : goal.returns
returns g c = c.is_ok.ensures.value ∙ found_name c.args.name.now c.args.targets.now c.binary_search.result c.requires c.binary_search.ensures.bound c.binary_search.ensures.position
