use Rattle.laws.proofs.FollowedSearches.{ask_is_of_search}
use Rattle.laws.proofs.NewSearches.{new_is_opened}
use Rattle.laws.proofs.Opens.{frames_open_in_steps}
use Rattle.laws.proofs.Steps.{lost_is_asked_on, truncated_is_asked_again, referral_is_asked, answer_is_replied, alias_is_kept}
use Rattle.laws.proofs.followed.runs_law.Goals as goal

pub returns : goal.returns
returns c = record {
  ask = ask_is_of_search;
  lost = lost_is_asked_on;
  truncated = truncated_is_asked_again;
  referral = referral_is_asked;
  answer = answer_is_replied;
  alias = alias_is_kept;
  opens = frames_open_in_steps;
  searches = new_is_opened;
}
