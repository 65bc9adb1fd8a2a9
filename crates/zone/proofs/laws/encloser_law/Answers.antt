use Rattle.zone.proofs.LawTests.{closest_holds, closest_one}
use Rattle.zone.proofs.laws.encloser_law.Goals as goal

pub returns : goal.returns
returns c = record { found = closest_holds; sought = closest_one }
