-- What a worker does: it puts its queries one after another, and before the next one it runs every follow-up
-- event that came of the last.
use Rattle.std.specs.Prelude.{◌≡◌, ℕ, Result, List, [], ◌∷◌, ◌++◌}
use Rattle.memory.specs.declared.Starved.{Starved}
use Rattle.book.specs.Histories.{Line}
use Rattle.pool.specs.Closings.{Part}

module _ {Q E O : Type 0} (event_of : Q → E) (follow_ups : E → Result O Starved → List E) where
  -- These lines run the follow-up events that wait, in their order, each of which may call for others behind
  -- them; then they put the first query and run what it calls for, and so on, until nothing is left.
  abbrev pub Follows : List (Line E O) → List Q → List E → Type 0
  Follows [] queries waiting = (queries ≡ []) × (waiting ≡ [])
  Follows (e ∷ es) queries (next ∷ waiting) = (e.event ≡ next) × Follows es queries (waiting ++ follow_ups e.event e.out)
  Follows (e ∷ es) (query ∷ queries) [] = (e.event ≡ event_of query) × Follows es queries (follow_ups e.event e.out)
  Follows (e ∷ es) [] [] = ⊥

  -- The lines so far begin the work on all queries: whatever works off those that are left, and what waits,
  -- ends it.
  pub record Goes (all : List Q) (es : List (Line E O)) (left : List Q) (waiting : List E) : Type 0 where
    pub goes : (rest : List (Line E O)) → Follows rest left waiting → Follows (es ++ rest) all []

  -- The worker of this number worked off its list of queries: what it hands back is its own ticket, and just
  -- the lines of that work.
  pub record Did (worker : ℕ) (queries : List Q) (p : Part E O) : Type 0 where
    pub own : p.ticket.worker ≡ worker
    pub follows : Follows p.lines queries []

-- The event was put, its line is kept, and what it calls for waits behind the rest.
pub record Entered {E O : Type 0} (follow_ups : E → Result O Starved → List E) (event : E) (es ds : List (Line E O)) (waiting later : List E) : Type 0 where
  pub entry : Line E O
  pub event_is : entry.event ≡ event
  pub entries : ds ≡ es ++ entry ∷ []
  pub waits : later ≡ waiting ++ follow_ups entry.event entry.out
