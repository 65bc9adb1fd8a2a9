use Rattle.laws.proofs.OneCall.{one_call}
use Rattle.laws.proofs.OneReading.{one_reading}
use Rattle.laws.proofs.OneStep.{one_step}
use Rattle.laws.proofs.orderly.determined_law.Goals as goal

pub returns : goal.returns
returns c = record { call = one_call; step = one_step; reading = one_reading }
