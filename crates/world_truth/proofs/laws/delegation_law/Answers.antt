use Rattle.world_truth.proofs.Grown.{referral_kept}
use Rattle.world_truth.proofs.laws.delegation_law.Goals as goal

pub returns : goal.returns
returns c = referral_kept
