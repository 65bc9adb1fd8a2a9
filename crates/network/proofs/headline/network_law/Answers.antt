use Rattle.network.proofs.Carried.{every_reply_is_right, every_network_is_run}
use Rattle.network.proofs.headline.network_law.Goals as goal

pub returns-clause-right : goal.returns-clause-right
returns-clause-right c = every_reply_is_right

pub returns-clause-run : goal.returns-clause-run
returns-clause-run c = every_network_is_run
