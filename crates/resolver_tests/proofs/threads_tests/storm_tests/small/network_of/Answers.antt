use Rattle.resolver_tests.proofs.threads_tests.storm_tests.small.network_of.Goals as goal

pub returns-in-Ok-clause-fresh : goal.returns-in-Ok-clause-fresh
returns-in-Ok-clause-fresh c = record {
  world = c.args.world;
  site = (c.in-Ok.network.resolver).site;
  well_formed = c.well_formed_law.ensures;
  home = (c.in-Ok.ensures.resolver).home;
  fresh = c.in-Ok.ensures.fresh;
}

pub returns-in-Ok-clause-world : goal.returns-in-Ok-clause-world
returns-in-Ok-clause-world c = (c.in-Ok.ensures.fresh).world
