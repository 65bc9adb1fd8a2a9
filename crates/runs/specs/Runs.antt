-- Runs: the steps of a resolver from its start on, the newest first, and terms for their properties.
use Rattle.std.specs.Prelude.{◌≡◌, ◌≢◌, ℕ, ◌+◌, max, ◌⊎◌, Bool, true, false, cond, nat_eq, Option, Some, None, List, [], ◌∷◌, Contains}
use Rattle.message_grammar.specs.Messages.{Message}
use Rattle.front.specs.Queries.{IsRequest}
use Rattle.front.specs.declared.queries.Request.TheVariants as request
use Rattle.runs.specs.States.{Client, moment, Action, Reply, Send, TcpAsk, MoreDue, Served, Nobody, Own, OpenQuery, Turn, Plain, ClientQuery, Ask, Site, State, IsNew}
use Rattle.runs.specs.Messages.{IsSent, Brings}
use Rattle.runs.specs.Steps.{Step}

-- These steps lead from a new resolver to that state.
abbrev pub Run : Site → List Turn → State → Type 0
Run site [] s = IsNew site s
Run site (t ∷ past) s = (old : State) × Run site past old × Step old t.event t.served t.out s

-- Some step of the run has a property, and each step has it: a step and the run before it.
abbrev pub Earlier : (Turn → List Turn → Type 0) → List Turn → Type 0
Earlier P [] = ⊥
Earlier P (t ∷ past) = P t past ⊎ Earlier P past

abbrev pub Always : (Turn → List Turn → Type 0) → List Turn → Type 0
Always P [] = Unit {0}
Always P (t ∷ past) = P t past × Always P past

-- The clock after the newest step: the greatest moment of all.
abbrev pub clock_of : List Turn → ℕ
clock_of [] = 0
clock_of (t ∷ past) = max (clock_of past) (moment t.event)

-- An action that goes out in a step.
abbrev pub GivesOut : Option (List Action) → Action → Type 0
GivesOut None action = ⊥
GivesOut (Some out) action = Contains out action

-- The open ask of query k: the last one that went out for it, until a later step serves the query.
abbrev pub IsOpenAskOf : ℕ → ℕ → Ask → List Turn → Type 0
IsOpenAskOf port k a [] = ⊥
IsOpenAskOf port k a (t ∷ past) =
    ((t.served ≡ OpenQuery k) × ((action : Action) × GivesOut t.out action × IsSent port a action)) ⊎ ((t.served ≢ OpenQuery k) × IsOpenAskOf port k a past)

-- A step accepts a message for the open ask of the query that it serves.
pub record Accepts (port k : ℕ) (a : Ask) (m : Message) (t : Turn) (past : List Turn) : Type 0 where
  pub served : t.served ≡ OpenQuery k
  pub ask : IsOpenAskOf port k a past
  pub brings : Brings port a t.event m

-- A step in which a client's query comes. It is served under its number, or is over in this step.
pub record Came (served : Served) (who : ClientQuery) (t : Turn) (past : List Turn) : Type 0 where
  pub is_served : t.served ≡ served
  pub moment : ℕ
  pub bytes : List ℕ
  pub event : t.event ≡ Client moment who.client who.way bytes
  pub reads : IsRequest {A = Plain} bytes (request.Query who.query)

-- How many asks went out for query k.
abbrev pub is_ask : Action → Bool
is_ask (Reply client way bytes cause) = false
is_ask (Send sock to bytes) = true
is_ask (TcpAsk number to bytes) = true
is_ask MoreDue = false

abbrev pub asks_among : List Action → ℕ
asks_among [] = 0
asks_among (action ∷ out) = cond (is_ask action) 1 0 + asks_among out

abbrev pub asks_in : Option (List Action) → ℕ
asks_in None = 0
asks_in (Some out) = asks_among out

abbrev pub is_for : ℕ → Served → Bool
is_for k Nobody = false
is_for k Own = false
is_for k (OpenQuery n) = nat_eq n k

abbrev pub asks_of : ℕ → List Turn → ℕ
asks_of k [] = 0
asks_of k (t ∷ past) = cond (is_for k t.served) (asks_in t.out) 0 + asks_of k past
