use Rattle.laws.proofs.Discipline.{one_action, one_coming, one_reply, never_again, open_by_run, few_asks, one_line}
use Rattle.laws.proofs.LookUps.{few_look_ups, look_ups_are_spent}
use Rattle.laws.proofs.Short.{steps_are_short}
use Rattle.laws.proofs.orderly.discipline_law.Goals as goal

pub returns : goal.returns
returns c = record {
  action = one_action;
  coming = one_coming;
  reply = one_reply;
  never_again = never_again;
  waits = open_by_run;
  asks = few_asks;
  look_ups = few_look_ups;
  looked_out = look_ups_are_spent;
  short = steps_are_short;
  line = one_line;
}
