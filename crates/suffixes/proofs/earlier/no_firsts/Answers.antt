use Rattle.suffixes.proofs.Links.{none_put}
use Rattle.suffixes.proofs.earlier.no_firsts.Goals as goal

pub returns : goal.returns
returns c = none_put
