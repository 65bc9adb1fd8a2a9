-- Each step keeps the laws of runs.
use Rattle.std.proofs.Common.{◌≡◌, Option, Some, List, ◌∷◌, subst}
use Rattle.runs.specs.States.{Event, Action, Served, Turn, Site, State}
use Rattle.runs.specs.Steps.{Step}
use Rattle.runs.specs.Runs.{Run}
use Rattle.runs.proofs.Heard.{accepted_is_heard, tcp_is_heard}
use Rattle.laws.proofs.Every.{every_reply_is_right, held_is_true}
use Rattle.laws.proofs.Runs.{run_explained}
use Rattle.laws.proofs.Failing.{every_failure}
use Rattle.laws.proofs.Twice.{two_asks}
use Rattle.runs.proofs.Clocks.{clock_of_run}
use Rattle.laws.proofs.LookUps.{few_look_ups, look_ups_are_spent}
use Rattle.laws.proofs.Meant.{served_is_meant, at_hand_is_replied, nobody_failing_is_asked, open_is_of_run}
use Rattle.laws.proofs.Short.{steps_are_short}
use Rattle.laws.proofs.Discipline.{one_action, one_coming, one_reply, never_again, open_by_run, few_asks, one_line, others_stay, more_at_ticks}
use Rattle.laws.proofs.Due.{due_in_order}
use Rattle.laws.proofs.Times.{nothing_is_late}
use Rattle.laws.proofs.KeptFailures.{failure_is_found, failure_is_looked}
use Rattle.laws.specs.Determined.{IsOneOutcome}
use Rattle.laws.proofs.NewSearches.{new_is_opened}
use Rattle.laws.proofs.OneReading.{one_reading}
use Rattle.laws.proofs.OwnWork.{order_is_kept}
use Rattle.laws.proofs.OneStep.{one_step}
use Rattle.laws.proofs.Room.{room_stays}
use Rattle.laws.proofs.Words.{words_in_order}
use Rattle.laws.proofs.FollowedSearches.{ask_is_of_search}
use Rattle.laws.proofs.Steps.{lost_is_asked_on, truncated_is_asked_again, referral_is_asked, answer_is_replied, alias_is_kept}
use Rattle.laws.proofs.Opens.{frames_open_in_steps}
use Rattle.laws.proofs.Held.{held_is_replied}
use Rattle.laws.proofs.Found.{kept_is_found}
use Rattle.laws.proofs.Looked.{accepted_is_looked}
use Rattle.engine.specs.Promises.{Keeps, turn_of, Steps}

module _ (site : Site) (past : List Turn) (old : State) (t : Turn) (new : State) (legal : Run site past old) (step : Step old t.event t.served t.out new) where
  one_here : (out : List Action) → t.out ≡ Some out → IsOneOutcome old t.event t.served out new
  one_here out gives = one_step site past old t.event t.served out new legal (subst (λ (o : Option (List Action)). Step old t.event t.served o new) gives step)

  pub keeps : Keeps site past old t new legal step
  keeps = record {
    right = λ W is ours honest. (every_reply_is_right W site (t ∷ past) new is ours (old, legal, step)).0 honest;
    truth = λ W is ours honest. held_is_true W site (t ∷ past) new is ours (old, legal, step) honest;
    timely = ((run_explained site (t ∷ past) new (old, legal, step)).1).0;
    spent = (every_failure site (t ∷ past) new (old, legal, step)).0;
    twice = λ k z n kind a. two_asks site.port site.home k z n kind a (t ∷ past);
    action = (one_action site (t ∷ past) new (old, legal, step)).0;
    coming = λ k. (one_coming site (t ∷ past) new (old, legal, step) k).0;
    reply = λ k. (one_reply site (t ∷ past) new (old, legal, step) k).0;
    never_again = λ k. (never_again site (t ∷ past) new (old, legal, step) k).0;
    asks = few_asks site (t ∷ past) new (old, legal, step);
    look_ups = few_look_ups site (t ∷ past) new (old, legal, step);
    looked_out = look_ups_are_spent site past old t new legal step;
    short = steps_are_short site past old t new legal step;
    waits = open_by_run site (t ∷ past) new (old, legal, step);
    line = one_line site (t ∷ past) new (old, legal, step);
    words = words_in_order site (t ∷ past) new (old, legal, step);
    room = room_stays site (t ∷ past) new (old, legal, step);
    clock = clock_of_run site (t ∷ past) new (old, legal, step);
    served = served_is_meant site past old t new legal step;
    at_hand = at_hand_is_replied site past old t new legal step;
    free = nobody_failing_is_asked site past old t new legal step;
    shown = open_is_of_run site (t ∷ past) new (old, legal, step);
    one = one_here;
    reading = one_reading site past old t new legal step;
    accepted = accepted_is_heard site past old t new legal step;
    tcp = tcp_is_heard site past old t new legal step;
    others = others_stay site past old t new legal step;
    starved = order_is_kept site past old t new legal step;
    order = due_in_order site past old t new legal step;
    more_due = (more_at_ticks site (t ∷ past) new (old, legal, step)).0;
    late = λ k. (nothing_is_late site (t ∷ past) new (old, legal, step) k).0;
    ask = ask_is_of_search site (t ∷ past) new (old, legal, step);
    lost = lost_is_asked_on site past old t new;
    truncated = truncated_is_asked_again site past old t new;
    referral = referral_is_asked site past old t new;
    answered = answer_is_replied site past old t new;
    alias = alias_is_kept site past old t new;
    opens = frames_open_in_steps site past old t new legal step;
    searches = new_is_opened site past old t new legal step;
    held = held_is_replied site past old t new legal step;
    looked = accepted_is_looked site past old t new legal step;
    kept = kept_is_found site (t ∷ past) new (old, legal, step);
    fails = failure_is_looked site past old t new legal step;
    failing = failure_is_found site (t ∷ past) new (old, legal, step);
  }

pub steps : (old : State) (event : Event) (served : Served) (out : Option (List Action)) (new : State) → Step old event served out new → Steps old event out new
steps old event served out new step = record {
  served = served;
  step = step;
  promises = λ site past legal. keeps site past old (turn_of event served out) new legal step;
}
