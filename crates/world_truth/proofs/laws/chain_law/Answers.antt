use Rattle.world_truth.proofs.SomeTruth.{chain_grows, nine_have_none, cname_is_plain}
use Rattle.world_truth.proofs.laws.chain_law.Goals as goal

pub returns : goal.returns
returns c = record { grows = chain_grows; nine = nine_have_none; plain = cname_is_plain }
