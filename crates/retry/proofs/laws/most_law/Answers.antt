use Rattle.retry.proofs.Steps.{level_low, timed_out_low, answered_low}
use Rattle.retry.proofs.laws.most_law.Goals as goal

pub returns : goal.returns
returns c = record { level = level_low; timed_out = timed_out_low; answered = answered_low }
