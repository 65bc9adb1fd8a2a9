use Rattle.world_truth.proofs.Referred.{honest_referral}
use Rattle.world_truth.proofs.laws.honest_referral_law.Goals as goal

pub returns : goal.returns
returns c = honest_referral
