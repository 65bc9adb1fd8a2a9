-- What workers who share a machine did together.
use Rattle.std.specs.Prelude.{◌≡◌, ℕ, ◌<◌, Result, List, [], reverse, length, slice_index_or}
use Rattle.memory.specs.declared.Starved.{Starved}
use Rattle.book.specs.Histories.{Line, lines_of, LeadsMachine}
use Rattle.workers.specs.Working.{Follows}

-- h, the oldest line first, is one legal history of the machine, from a start that it may have; a worker's
-- lines in it are those that the worker kept, and they work off the worker's own queries. No line is
-- another's.
pub record HaveRun {S Q E O : Type 0} (moves : S → E → Result O Starved → S → Type 0) (begins : S → Type 0) (event_of : Q → E)
    (follow_ups : E → Result O Starved → List E) (queries : List (List Q)) (h : List (Line E O)) (lists : List (List (Line E O))) : Type 0 where
  pub start : S
  pub begun : begins start
  pub state : S
  pub legal : LeadsMachine moves (length queries) start (reverse h) state
  pub many : length lists ≡ length queries
  pub kept : (w : ℕ) → w < length queries → lines_of w h ≡ slice_index_or lists w []
  pub worked : (w : ℕ) → w < length queries → Follows event_of follow_ups (lines_of w h) (slice_index_or queries w []) []
