-- A client's message on its way through the machine: what was read of it, and what a step on that gave.
use Rattle.std.specs.Prelude.{◌≡◌, ℕ, ◌+◌, Bool, true, false, Result, Option, Some, None, List, IfSome, MatchOption, option_map}
use Rattle.memory.specs.declared.Starved.{Starved}
use Rattle.book.specs.Books.{TicketView, ticket_view}
use Rattle.pool.specs.Closings.{EntersAndGives}
use Rattle.wire.specs.declared.via.Via.{Via}
use Rattle.runs.specs.States.{Event, Action, Client}
use Rattle.typed.specs.Events.{Parsed, ReadAs}
use Rattle.typed.specs.declared.action.TypedAction.{TypedAction}
use Rattle.typed.specs.declared.action.TypedAction.TheVariants.{Reply, Refusal, Ask}
use Rattle.typed.specs.declared.action.TypedActions.{TypedActions}
use Rattle.admission.specs.States.{State}
use Rattle.server.specs.declared.passage.Standing.{Standing}
use Rattle.server.specs.declared.passage.Standing.TheVariants.{Comes, Answered, Free, Asks, Admitted, Held, Dropped, Unseen}
use Rattle.server.specs.declared.query.Query.{Query}
use Rattle.server.specs.declared.shared_admission.Question.{Question}
use Rattle.server.specs.Entries.{StandsBy, IsLetBy}
use Rattle.server.specs.Steps.{IsPut}

-- What contracts see of a message under way: how it stands in admission; the event that it is, unless it waits there;
-- what was read of that; and what its step gave, where it was taken.
pub record PassageView (O : Type 0) : Type 0 where
  pub standing : Standing
  pub event : Option Event
  pub parsed : Parsed
  pub given : Option O

-- The query comes at that moment.
abbrev pub event_of : ℕ → Query → Event
event_of moment query = Client moment query.asker.client query.asker.way query.bytes

-- A client's message.
abbrev pub IsClients : Event → Type 0
IsClients e = (now client : ℕ) × (way : Via) × (bytes : List ℕ) × (e ≡ Client now client way bytes)

-- The view of these five.
abbrev pub passage_view : {O : Type 0} → Standing → ℕ → Option Query → Parsed → Option O → PassageView O
passage_view standing moment query parsed given =
    record { standing = standing; event = option_map (event_of moment) query; parsed = parsed; given = given }

-- The event is that of this query.
abbrev pub IsOfQuery : Option Event → Query → Type 0
IsOfQuery event query = (moment : ℕ) × (event ≡ Some (event_of moment query))

abbrev pub is_ask : {A : Type 0} → TypedAction A → Bool
is_ask (Ask port ask) = true
is_ask (Reply client_query outcome) = false
is_ask (Refusal client way refusal start echo) = false

abbrev pub asks_first : {A : Type 0} → Option (TypedAction A) → Bool
asks_first None = false
asks_first (Some action) = is_ask action

-- Whether what a step gave asks a server.
abbrev pub asks_server : {A : Type 0} → Option (TypedActions A) → Bool
asks_server None = false
asks_server (Some given) = asks_first given.first

-- A question that asks for admission, and whose query came so, stands from now on as admission decides, or is free in
-- place of dropped, where the machine holds its answer. Admission hears nothing of that.
pub record IsEntered {O : Type 0} (holds : Type 0) (before : State Query) (question : Question) (p q : PassageView O) (after : State Query) : Type 0 where
  pub moment : ℕ
  pub query : Query
  pub came : p.event ≡ Some (event_of moment query)
  pub decided : Standing
  pub here : Option Query
  pub stands : StandsBy before question moment query decided here after
  pub let_by : IsLetBy holds decided q.standing
  pub becomes : q ≡ record p { standing = q.standing; event = option_map (event_of moment) here }

module _ {O : Type 0} where
  abbrev pub IsUnchanged : State Query → PassageView O → PassageView O → State Query → Type 0
  IsUnchanged before p q after = (q ≡ p) × (after ≡ before)

  -- What asks is decided on, unless its query has gone, and all else is left as it is.
  abbrev pub Enters : (Parsed → Type 0) → Standing → State Query → PassageView O → PassageView O → State Query → Type 0
  Enters holds (Asks question) before p q after =
      MatchOption p.event (IsUnchanged before p q after) (λ event. IsEntered (holds p.parsed) before question p q after)
  Enters holds Comes before p q after = IsUnchanged before p q after
  Enters holds Answered before p q after = IsUnchanged before p q after
  Enters holds Free before p q after = IsUnchanged before p q after
  Enters holds (Admitted question) before p q after = IsUnchanged before p q after
  Enters holds Held before p q after = IsUnchanged before p q after
  Enters holds Dropped before p q after = IsUnchanged before p q after
  Enters holds Unseen before p q after = IsUnchanged before p q after

module _ {S O : Type 0} (moves : S → Parsed → Result O Starved → S → Type 0) (begins : S → Type 0) where
  -- The newest step of some history of the machine, on what was read, gave this.
  pub record IsGiven (parsed : Parsed) (out : O) : Type 0 where
    pub before : TicketView
    pub after : TicketView
    pub gives : EntersAndGives moves begins before parsed out after

  -- What was read is that event's, and what is given a step gave on it.
  pub record IsOnItsWay (p : PassageView O) : Type 0 where
    pub reads : IfSome p.event (λ e. ReadAs e p.parsed)
    pub gave : IfSome p.given (IsGiven p.parsed)

  -- The ticket t took the message's step, whose outcome is noted, and is u now.
  pub record TakesStep (t : TicketView) (p q : PassageView O) (u : TicketView) : Type 0 where
    pub out : O
    pub gives : EntersAndGives moves begins t p.parsed out u
    pub noted : q ≡ record p { given = Some out }

  -- The machine has the answer to a message that has not asked for admission, and the ticket t took its step and is u
  -- now. The message stands as answered, with what the step gave: nothing, where that wanted memory.
  pub record AnswersAtOnce (has_answer : Parsed → Type 0) (t : TicketView) (p q : PassageView O) (u : TicketView) : Type 0 where
    pub came : p.standing ≡ Comes
    pub at_hand : has_answer p.parsed
    pub gives : MatchOption q.given (u ≡ ticket_view t.worker (t.count + 1)) (λ out. EntersAndGives moves begins t p.parsed out u)
    pub becomes : q ≡ record p { standing = Answered; given = q.given }

module _ {S A : Type 0} (moves : S → Parsed → Result (TypedActions A) Starved → S → Type 0) (begins : S → Type 0) where
  -- The event was read, the machine took one step on that, and the actions are what it gave, written.
  pub record IsServed (event : Event) (actions : List Action) : Type 0 where
    pub before : TicketView
    pub after : TicketView
    pub put : IsPut moves begins before event actions after

  -- Where the message is still an event, the actions are its.
  abbrev pub IsAnswered : Option Event → List Action → Type 0
  IsAnswered event actions = IfSome event (λ e. IsServed e actions)
