use Rattle.world_truth.proofs.OneReply.{one_whole, one_reply}
use Rattle.world_truth.proofs.laws.one_reply_law.Goals as goal

pub returns : goal.returns
returns c = record { whole = one_whole; reply = one_reply }
