use Rattle.zone.proofs.LawExists.{exists_plain}
use Rattle.zone.proofs.LawTests.{exists_holds, exists_is, uncut_is}
use Rattle.zone.proofs.laws.existence_law.Goals as goal

pub returns : goal.returns
returns c = record { test = λ z n named. (exists_holds z n named, exists_is z n); plain = λ z n free. exists_plain z n (uncut_is z n free) }
