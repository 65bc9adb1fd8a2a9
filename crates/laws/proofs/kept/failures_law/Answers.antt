use Rattle.laws.proofs.KeptFailures.{failure_is_found, failure_is_looked}
use Rattle.laws.proofs.kept.failures_law.Goals as goal

pub returns : goal.returns
returns c = record { found = failure_is_found; accepted = failure_is_looked }
