use Rattle.classify.proofs.Uses.{found_once, no_alias_class}
use Rattle.classify.proofs.laws.found_law.Goals as goal

pub returns : goal.returns
returns c = record { once = λ f q t via m. found_once f q t m via; cname = no_alias_class }
