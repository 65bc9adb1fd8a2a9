use Rattle.zone.proofs.LawLink.{link_law}
use Rattle.zone.proofs.LawTests.{cut_of_holds}
use Rattle.zone.proofs.laws.link_law.Goals as goal

pub returns : goal.returns
returns c = record { link = link_law; referral = cut_of_holds }
