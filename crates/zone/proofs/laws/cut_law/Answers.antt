use Rattle.zone.proofs.LawTests.{cut_of_holds, cut_of_one, uncut_holds, uncut_is}
use Rattle.zone.proofs.laws.cut_law.Goals as goal

pub returns : goal.returns
returns c = record { over = λ z q c n. (cut_of_holds z q c n, cut_of_one z q c n); uncut = λ z q n. (uncut_holds z q n, uncut_is z q) }
