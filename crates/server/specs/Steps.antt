-- What a loop makes of an event outside of the lock: it is read, the machine takes one step, and what that gives is
-- written.
use Rattle.std.specs.Prelude.{◌≡◌, Result, Ok, Err, List}
use Rattle.memory.specs.declared.Starved.{Starved}
use Rattle.book.specs.Histories.{Line, IsLast}
use Rattle.book.specs.Books.{TicketView}
use Rattle.pool.specs.Closings.{Enters}
use Rattle.runs.specs.States.{Event, Action}
use Rattle.typed.specs.Events.{Parsed, ReadAs}
use Rattle.typed.specs.Views.{said_listed}
use Rattle.typed.specs.declared.action.TypedActions.{TypedActions}

-- The actions are what a step gave, written. A step that wanted memory gave none.
abbrev pub IsWritten : {A : Type 0} → Result (TypedActions A) Starved → List Action → Type 0
IsWritten (Ok given) actions = actions ≡ said_listed given.first given.more_due
IsWritten (Err wanted) actions = ⊥

module _ {S A : Type 0} (moves : S → Parsed → Result (TypedActions A) Starved → S → Type 0) (begins : S → Type 0) where
  -- The machine took one step on what was read, by the ticket t, which is u now. The step is the newest line of some
  -- history of the machine, and the actions are what it gave, written.
  pub record IsStepped (t : TicketView) (parsed : Parsed) (actions : List Action) (u : TicketView) : Type 0 where
    pub entry : Line Parsed (TypedActions A)
    pub last : IsLast moves begins entry
    pub enters : Enters t parsed entry u
    pub written : IsWritten entry.out actions

  -- The event was read, and the machine took one step on that.
  pub record IsPut (t : TicketView) (event : Event) (actions : List Action) (u : TicketView) : Type 0 where
    pub parsed : Parsed
    pub reads : ReadAs event parsed
    pub stepped : IsStepped t parsed actions u
