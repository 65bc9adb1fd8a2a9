-- What a book shows of the one history that its workers share, and what one call of `put` does to it.
use Rattle.std.specs.Prelude.{◌≡◌, ℕ, zero, suc, ◌+◌, ◌<◌, Result, Ok, List, [], ◌∷◌, ◌++◌, reverse, length, take, slice_index_or, slice_set}
use Rattle.memory.specs.declared.Starved.{Starved}
use Rattle.book.specs.Histories.{Line, count_of, LeadsMachine, IsLast}

-- What contracts see of a book: the machine's state, how many lines there are in all, how many each worker
-- has, and the last of them, the newest first, of which so many are kept.
pub record BookView (S E O : Type 0) : Type 0 where
  pub state : S
  pub entries : ℕ
  pub counts : List ℕ
  pub tail : List (Line E O)
  pub keep : ℕ

-- The view of these five.
abbrev pub book_view : {S E O : Type 0} → S → ℕ → List ℕ → List (Line E O) → ℕ → BookView S E O
book_view s n cs es k = record { state = s; entries = n; counts = cs; tail = es; keep = k }

-- What contracts see of a ticket: its worker, and how many lines that worker has.
pub record TicketView : Type 0 where
  pub worker : ℕ
  pub count : ℕ

-- The view of these two.
abbrev pub ticket_view : ℕ → ℕ → TicketView
ticket_view w n = record { worker = w; count = n }

-- A ticket for each of the first n workers, in order, who have no lines yet.
abbrev pub first_tickets : ℕ → List TicketView
first_tickets zero = []
first_tickets (suc n) = first_tickets n ++ ticket_view n 0 ∷ []

-- This worker is one of the book's, and the book has as many lines of it.
abbrev pub Owns : {S E O : Type 0} → BookView S E O → TicketView → Type 0
Owns p t = (t.worker < length p.counts) × (t.count ≡ slice_index_or p.counts t.worker 0)

module _ {S E O : Type 0} (moves : S → E → Result O Starved → S → Type 0) where
  -- The book shows just these lines, the newest first, from this start.
  pub record Fits (p : BookView S E O) (start : S) (lines : List (Line E O)) : Type 0 where
    pub legal : LeadsMachine moves (length p.counts) start lines p.state
    pub entries : p.entries ≡ length lines
    pub counts : (w : ℕ) → w < length p.counts → slice_index_or p.counts w 0 ≡ count_of w lines
    pub tail : p.tail ≡ take p.keep lines

  -- One history of the machine, from a start that it may have, led to this book.
  pub record Reached (begins : S → Type 0) (p : BookView S E O) : Type 0 where
    pub start : S
    pub begun : begins start
    pub lines : List (Line E O)
    pub fits : Fits p start lines

  -- h, the oldest line first, is the whole history that led to this book.
  pub record IsHistory (begins : S → Type 0) (p : BookView S E O) (h : List (Line E O)) : Type 0 where
    pub start : S
    pub begun : begins start
    pub legal : LeadsMachine moves (length p.counts) start (reverse h) p.state
    pub entries : p.entries ≡ length h
    pub counts : (w : ℕ) → w < length p.counts → slice_index_or p.counts w 0 ≡ count_of w h

  -- The book q is p with one more line: the machine took one step, and the line's worker has one line more.
  pub record Adds (p : BookView S E O) (e : Line E O) (q : BookView S E O) : Type 0 where
    pub step : moves p.state e.event e.out q.state
    pub number : e.number ≡ slice_index_or p.counts e.worker 0
    pub entries : q.entries ≡ p.entries + 1
    pub counts : q.counts ≡ slice_set p.counts e.worker (e.number + 1)
    pub tail : q.tail ≡ take p.keep (e ∷ p.tail)
    pub keep : q.keep ≡ p.keep

  -- The event was put by this ticket as the line e: book and ticket both have one line more.
  pub record Takes (p : BookView S E O) (t : TicketView) (event : E) (e : Line E O) (q : BookView S E O) (u : TicketView) : Type 0 where
    pub worker : e.worker ≡ t.worker
    pub number : e.number ≡ t.count
    pub event_is : e.event ≡ event
    pub adds : Adds p e q
    pub ticket : u ≡ ticket_view t.worker (t.count + 1)

  -- The event was put, as some line.
  pub record Stands (p : BookView S E O) (t : TicketView) (event : E) (q : BookView S E O) (u : TicketView) : Type 0 where
    pub entry : Line E O
    pub takes : Takes p t event entry q u

  -- The event was put, as a line that is the newest of some history, and of which this came out.
  pub record Gives (begins : S → Type 0) (p : BookView S E O) (t : TicketView) (event : E) (out : O) (q : BookView S E O) (u : TicketView) : Type 0 where
    pub entry : Line E O
    pub last : IsLast moves begins entry
    pub takes : Takes p t event entry q u
    pub gave : entry.out ≡ Ok out
