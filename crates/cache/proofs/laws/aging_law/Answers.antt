use Rattle.cache.proofs.Aging.{aged_same, live_is_left, left_is_less, new_is_whole}
use Rattle.cache.proofs.laws.aging_law.Goals as goal

pub returns : goal.returns
returns c = record { same = aged_same; live = live_is_left; less = left_is_less; new = new_is_whole }
