use Rattle.zone.proofs.LawOne.{one_link, link_is}
use Rattle.zone.proofs.laws.one_link_law.Goals as goal

pub returns : goal.returns
returns c = record { one = one_link; looked_up = link_is }
