use Rattle.lookup.proofs.lookup.start_beyond.Goals as goal

pub returns-clause-start : goal.returns-clause-start
returns-clause-start g c = record {
  best = c.in_ok-best.best;
  is_best = c.in_ok-best.ensures.relation;
  begun = c.in_ok-found_beyond.ensures c.args.name.now;
  stores = c.in_ok-best.ensures.ok;
}
