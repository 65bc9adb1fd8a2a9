use Rattle.cache.proofs.Failed.{failed_was_kept, kept_is_failed, asked_fails}
use Rattle.cache.proofs.laws.failures_law.Goals as goal

pub returns : goal.returns
returns c = record { kept = failed_was_kept; lives = kept_is_failed; same = asked_fails }
