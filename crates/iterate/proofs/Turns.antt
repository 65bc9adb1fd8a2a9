-- The loop over the rules: what each turn keeps.
use Rattle.std.proofs.Common.{ℕ, suc, ◌<◌, refl}
use Rattle.resolution.specs.Jobs.{Home, Point, IsFreshTask}
use Rattle.resolution.specs.Rules.{Rule, Rules}
use Rattle.resolution.proofs.Falls.{measure, falls, stays_fresh}

-- So many rules were applied, and a link that is to be taken is fresh.
pub record Running (home : Home) (now : ℕ) (first here : Point) : Type 0 where
  pub count : ℕ
  pub rules : Rules home now count first here
  pub fresh : IsFreshTask now here.task

pub running_first : (home : Home) (now : ℕ) (p : Point) → IsFreshTask now p.task → Running home now p p
running_first home now p fresh = record { count = 0; rules = refl; fresh = fresh }

pub running_on : (home : Home) (now : ℕ) (first here next : Point) → Running home now first here → Rule home now here next → Running home now first next
running_on home now first here next h rule = record { count = suc h.count; rules = (here, h.rules, rule); fresh = stays_fresh home now here next rule }

pub running_falls : (home : Home) (now : ℕ) (first here next : Point) → Running home now first here → Rule home now here next → measure now next < measure now here
running_falls home now first here next h rule = falls home now here next rule h.fresh
