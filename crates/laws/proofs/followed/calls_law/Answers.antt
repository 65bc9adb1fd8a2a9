use Rattle.laws.proofs.Calls.{next_is_asked, truncated_is_repeated, asked_did_not_fail}
use Rattle.laws.proofs.FailureKept.{failure_is_kept}
use Rattle.laws.proofs.FollowedAnswered.{referral_is_followed, answer_is_used, alias_stays}
use Rattle.laws.proofs.Opened.{frames_open_rightly}
use Rattle.laws.proofs.followed.calls_law.Goals as goal

pub returns : goal.returns
returns c = record {
  next = next_is_asked;
  truncated = truncated_is_repeated;
  referral = referral_is_followed;
  known = asked_did_not_fail;
  kept = failure_is_kept;
  frame = frames_open_rightly;
  answer = answer_is_used;
  alias = alias_stays;
}
