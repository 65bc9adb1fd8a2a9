-- The resolver as a machine whose history is written down: that history is a run.
use Rattle.std.specs.Prelude.{◌≡◌, ℕ, Option, Some, None, Result, Ok, Err, MatchResult, List, [], ◌∷◌}
use Rattle.memory.specs.declared.Starved.{Starved}
use Rattle.book.specs.Histories.{Line, LeadsMachine}
use Rattle.events.specs.declared.event.Event.{Event}
use Rattle.events.specs.Views.{event_view}
use Rattle.runs.specs.States.{Event as EventSpec, Action, Turn, State}
use Rattle.runs.specs.Runs.{Run}
use Rattle.laws.specs.FirstStates.{first_of}
use Rattle.typed.specs.Events.{Parsed, ReadAs}
use Rattle.typed.specs.Views.{said_listed}
use Rattle.typed.specs.declared.action.TypedActions.{TypedActions}
use Rattle.engine.specs.Beginnings.{IsBegun}
use Rattle.engine.specs.Promises.{Steps}

-- The machine takes a step, also where memory runs out.
abbrev pub Moves : {A : Type 0} → State → Event A → Result (List Action) Starved → State → Type 0
Moves s event result new = MatchResult result (λ out. Steps s (event_view event) (Some out) new) (λ _. Steps s (event_view event) None new)

abbrev pub out_of : Result (List Action) Starved → Option (List Action)
out_of (Ok out) = Some out
out_of (Err refused) = None

-- The steps of a run are those in the lines of a history.
abbrev pub Shows : {A : Type 0} → List Turn → List (Line (Event A) (List Action)) → Type 0
Shows [] [] = Unit {0}
Shows [] (e ∷ older) = ⊥
Shows (t ∷ past) [] = ⊥
Shows (t ∷ past) (e ∷ older) = (t.event ≡ event_view e.event) × (t.out ≡ out_of e.out) × Shows past older

-- A run from that first state on, whose steps the history shows.
pub record IsRunOf (A : Type 0) (lines : List (Line (Event A) (List Action))) (start s : State) : Type 0 where
  pub run : List Turn
  pub legal : Run start.site run s
  pub first : first_of start.site run s legal ≡ start
  pub shows : Shows run lines

-- Every history of the machine, from a resolver that has done nothing yet, is a run.
abbrev pub HistoryIsRun : Type 0 → Type 0
HistoryIsRun A =
    (workers : ℕ) (start : State) (lines : List (Line (Event A) (List Action))) (s : State)
    → IsBegun start → LeadsMachine (Moves {A = A}) workers start lines s → IsRunOf A lines start s

-- ---- the machine whose messages are read before its steps and written after them

-- What goes out, once it is written.
abbrev pub written_of : {A : Type 0} → Result (TypedActions A) Starved → Option (List Action)
written_of (Ok said) = Some (said_listed said.first said.more_due)
written_of (Err refused) = None

-- A step on some event that is read so.
abbrev pub TypedMoves : {A : Type 0} → State → Parsed → Result (TypedActions A) Starved → State → Type 0
TypedMoves s parsed result new = (e : EventSpec) × ReadAs e parsed × Steps s e (written_of result) new

abbrev pub TypedShows : {A : Type 0} → List Turn → List (Line Parsed (TypedActions A)) → Type 0
TypedShows [] [] = Unit {0}
TypedShows [] (e ∷ older) = ⊥
TypedShows (t ∷ past) [] = ⊥
TypedShows (t ∷ past) (e ∷ older) = ReadAs t.event e.event × (t.out ≡ written_of e.out) × TypedShows past older

-- A run from that first state on: its events are read as those of the history, and what went out is what is written of
-- the history's actions.
pub record IsTypedRunOf (A : Type 0) (lines : List (Line Parsed (TypedActions A))) (start s : State) : Type 0 where
  pub run : List Turn
  pub legal : Run start.site run s
  pub first : first_of start.site run s legal ≡ start
  pub shows : TypedShows run lines

abbrev pub TypedHistoryIsRun : Type 0 → Type 0
TypedHistoryIsRun A =
    (workers : ℕ) (start : State) (lines : List (Line Parsed (TypedActions A))) (s : State)
    → IsBegun start → LeadsMachine (TypedMoves {A = A}) workers start lines s → IsTypedRunOf A lines start s
