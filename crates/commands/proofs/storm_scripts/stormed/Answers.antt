-- The totals are those of the network that was made.
use Rattle.commands.proofs.storm_scripts.stormed.Goals as goal

pub returns-in-Ok-Some-clause-ok : goal.returns-in-Ok-Some-clause-ok
returns-in-Ok-Some-clause-ok g c = record {
  start = c.in_ok-start.start;
  made = c.in_ok-start.ensures.made;
  storm = rw c.in-Ok-Some.field-0-is at c.in-Ok-Some.ensures.storm;
}
