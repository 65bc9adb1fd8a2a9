-- The promise in one sentence. In a well formed world, as long as servers send only what they may, each reply is right,
-- and it is made of links within their TTL or of a failure whose cause stands in the run.
use Rattle.std.specs.Prelude.{◌∷◌, List}
use Rattle.world_truth.specs.Worlds.{World, IsWorld}
use Rattle.runs.specs.States.{Turn, Site, State}
use Rattle.runs.specs.Runs.{Run, Always}
use Rattle.laws.specs.Headline.{IsHonest, IsHomeIn, RepliesAreRight}
use Rattle.laws.specs.Replies.{RepliesAre}
use Rattle.laws.specs.Caused.{IsExplained}

pub record AreRightAndTimely (W : World) (site : Site) (t : Turn) (past : List Turn) : Type 0 where
  pub right : RepliesAreRight W t past
  pub timely : RepliesAre site.home (IsExplained site.port site.home) t past

abbrev pub RightAndTimely : Type 0
RightAndTimely = (W : World) (site : Site) (run : List Turn) (s : State) → IsWorld W → IsHomeIn W site.home → Run site run s
    → Always (λ t past. IsHonest W site.port (t ∷ past) → AreRightAndTimely W site t past) run
