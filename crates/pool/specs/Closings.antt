-- How workers use a machine that they share: what one event does to a ticket, and when the lines that the
-- workers kept close the machine's book.
use Rattle.std.specs.Prelude.{◌≡◌, ℕ, ◌+◌, ◌<◌, ◌≤◌, ◌⊎◌, Result, Ok, List, reverse, length, slice_index_or, All, Any}
use Rattle.memory.specs.declared.Starved.{Starved}
use Rattle.book.specs.Histories.{Line, lines_of, IsLast}
use Rattle.book.specs.Books.{BookView, TicketView, ticket_view, IsHistory, Reached}
use Rattle.pool.specs.declared.fault.PoolError.{PoolError}
use Rattle.pool.specs.declared.fault.PoolError.TheVariants.{Differs, Forgot, Memory, Stranger}

-- The ticket t took this event as the line e, and is u now: its worker has one line more.
pub record Enters {E O : Type 0} (t : TicketView) (event : E) (e : Line E O) (u : TicketView) : Type 0 where
  pub worker : e.worker ≡ t.worker
  pub number : e.number ≡ t.count
  pub event_is : e.event ≡ event
  pub ticket : u ≡ ticket_view t.worker (t.count + 1)

-- The ticket t took this event as a line that is the newest of some history of the machine, and of which this came out.
-- The ticket is u now.
pub record EntersAndGives {S E O : Type 0} (moves : S → E → Result O Starved → S → Type 0) (begins : S → Type 0) (t : TicketView) (event : E) (out : O) (u : TicketView) : Type 0 where
  pub entry : Line E O
  pub last : IsLast moves begins entry
  pub enters : Enters t event entry u
  pub gave : entry.out ≡ Ok out

-- Why an event was refused: when out of memory, before its line was written or after; or since the ticket is
-- not one of the book's, and then the ticket is as it was.
abbrev pub IsEventRefused : TicketView → TicketView → PoolError → Type 0
IsEventRefused t u Memory = (u ≡ t) ⊎ (u ≡ ticket_view t.worker (t.count + 1))
IsEventRefused t u Stranger = u ≡ t
IsEventRefused t u Differs = ⊥
IsEventRefused t u Forgot = ⊥

-- What a worker hands back: its ticket, and the lines that it kept, in their order.
pub record Part (E O : Type 0) : Type 0 where
  pub ticket : TicketView
  pub lines : List (Line E O)

-- A part of these two.
abbrev pub part : {E O : Type 0} → TicketView → List (Line E O) → Part E O
part t es = record { ticket = t; lines = es }

-- The tickets are one for each worker, with as many lines as the worker has, and no other.
pub record OneEach {E O : Type 0} (counts : List ℕ) (parts : List (Part E O)) : Type 0 where
  pub many : length parts ≡ length counts
  pub each : (w : ℕ) → w < length counts → Any (λ p. p.ticket ≡ ticket_view w (slice_index_or counts w 0)) parts

-- The history h is a shuffle of what the workers kept: each kept what h has of its lines, in their order, and
-- h has no other worker's.
pub record IsShuffle {E O : Type 0} (h : List (Line E O)) (parts : List (Part E O)) : Type 0 where
  pub lists : All (λ p. lines_of p.ticket.worker h ≡ p.lines) parts
  pub others : All (λ e. Any (λ p. p.ticket.worker ≡ e.worker) parts) h

module _ {S E O : Type 0} (moves : S → E → Result O Starved → S → Type 0) where
  -- h is the whole history of the machine that led to the book, and the parts are those of the book's
  -- workers.
  pub record Closes (begins : S → Type 0) (p : BookView S E O) (parts : List (Part E O)) (h : List (Line E O)) : Type 0 where
    pub whole : p.entries ≤ p.keep
    pub kept : h ≡ reverse p.tail
    pub history : IsHistory moves begins p h
    pub tickets : OneEach p.counts parts
    pub shuffle : IsShuffle h parts

-- These are the sizes of the state in some book, to which one history of the machine led.
pub record AreSizes {S E O Z : Type 0} (moves : S → E → Result O Starved → S → Type 0) (begins : S → Type 0) (sizes_of : S → Z) (z : Z) : Type 0 where
  pub book : BookView S E O
  pub reached : Reached moves begins book
  pub sizes : z ≡ sizes_of book.state

-- Why the parts do not close the book: it no longer keeps all of its lines; or it does, and the tickets are
-- not one for each worker, or its history is no shuffle of the parts.
abbrev pub IsOpen : {S E O : Type 0} → BookView S E O → List (Part E O) → PoolError → Type 0
IsOpen p parts Forgot = p.keep < p.entries
IsOpen p parts Differs = (p.entries ≤ p.keep) × (OneEach p.counts parts → IsShuffle (reverse p.tail) parts → ⊥)
IsOpen p parts Memory = p.entries ≤ p.keep
IsOpen p parts Stranger = ⊥
