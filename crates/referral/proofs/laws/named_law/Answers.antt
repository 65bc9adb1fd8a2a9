use Rattle.referral.proofs.Named.{best_named, keep_named, found_over, best_valid, keep_valid}
use Rattle.referral.proofs.laws.named_law.Goals as goal

pub returns : goal.returns
returns c = record { best = best_named; kept = keep_named; over = found_over; best_valid = best_valid; kept_valid = keep_valid }
