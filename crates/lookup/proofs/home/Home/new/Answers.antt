use Rattle.lookup.proofs.Lists.{root_is, home_is}
use Rattle.lookup.proofs.home.Home.new.Goals as goal

pub invariant_of-result : goal.invariant_of-result
invariant_of-result g c = root_is c.args.catalog c.args.hints.now c.in_ok-root.root c.in_ok-root.ensures

pub returns : goal.returns
returns g c = home_is c.args.catalog c.args.hints.now c.in_ok-root.root c.in_ok-root.ensures
