-- The result of starting a query.
use Rattle.std.specs.Prelude.{ℕ, []}
use Rattle.resolution.specs.Jobs.{Home, Stores, Taken, Job, Start, Done, IsEnding}
use Rattle.resolution.specs.Rules.{Advances}
use Rattle.resolution.specs.Held.{Holds}
use Rattle.iterate.specs.declared.beginning.Started.{Started}
use Rattle.iterate.specs.declared.beginning.Started.TheVariants as started
use Rattle.iterate.specs.Views.{next_view}

-- The result is an answer, or a job at work and what goes out: each as the rules give it for the query itself. The job
-- of a query that is over may have any state.
abbrev pub StartsWith : {A : Type 0} → Home → ℕ → Job → Stores → Started A → Stores → Type 0
StartsWith home now query old (started.Answered last) new = (over : Job) × Advances home now Start query old (Done [] last) over new
StartsWith home now query old (started.Working job next) new = Advances home now Start query old (next_view next) job new

-- The link is the answer, as the rules give it for the query itself. It was held before, and no alias leads to it.
pub record AnswersWith (home : Home) (now : ℕ) (query : Job) (old : Stores) (last : Taken) (new : Stores) : Type 0 where
  pub over : Job
  pub advances : Advances home now Start query old (Done [] last) over new
  pub held : Holds home now query.kind old.cache query.name last
  pub ends : IsEnding last.link
