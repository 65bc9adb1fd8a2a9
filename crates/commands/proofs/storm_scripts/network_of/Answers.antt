-- A network that is made did nothing yet.
use Rattle.commands.proofs.storm_scripts.network_of.Goals as goal

pub returns-in-Ok-clause-begins : goal.returns-in-Ok-clause-begins
returns-in-Ok-clause-begins c = record {
  world = c.args.world;
  site = (c.in-Ok.network.resolver).site;
  well_formed = c.well_formed_law.ensures;
  home = (c.in-Ok.ensures.resolver).home;
  fresh = c.in-Ok.ensures.fresh;
}

pub returns-in-Ok-clause-world : goal.returns-in-Ok-clause-world
returns-in-Ok-clause-world c = (c.in-Ok.ensures.fresh).world
