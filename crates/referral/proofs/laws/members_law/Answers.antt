use Rattle.referral.proofs.Members.{looked_members, kept_members, kept_is_there, lost_members}
use Rattle.referral.proofs.Steps.{cut_is_best}
use Rattle.referral.proofs.laws.members_law.Goals as goal

pub returns : goal.returns
returns c = record { looked = looked_members; only = kept_members; there = kept_is_there; gone = lost_members; best = cut_is_best }
