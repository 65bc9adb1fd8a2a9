use Rattle.classify.proofs.Shortened.{received_same, received_short}
use Rattle.classify.proofs.lifetimes.received_law.Goals as goal

pub returns : goal.returns
returns c = record { same = received_same; short = received_short }
