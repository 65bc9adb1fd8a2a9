-- What look-ups among open queries find. A query is named by its number.
use Rattle.std.specs.Prelude.{◌≡◌, ◌≢◌, ℕ, ◌+◌, ◌<◌, ◌≤◌, ◌⊎◌, Option, Some, None, List, [], length, Contains}
use Rattle.slab.specs.Slab.{Slab, get}
use Rattle.rdata.specs.declared.addr.Addr.{Addr}
use Rattle.runs.specs.States.{Path, ByUdp, ByTcp, Ask, Open, due_moment}
use Rattle.runs.specs.Steps.{AreOthers}

-- The query's open ask left this socket for this server under this ID; it went over TCP under this number.
abbrev pub IsOnLine : ℕ → Addr → ℕ → Open → Type 0
IsOnLine sock server id q = ((q.ask).path ≡ ByUdp sock) × ((q.ask).server ≡ server) × ((q.ask).id ≡ id)

abbrev pub IsOnStream : ℕ → Open → Type 0
IsOnStream ask q = (q.ask).path ≡ ByTcp ask

-- Some open query's ask left this socket for this server under this ID.
abbrev pub IsTakenId : List Open → ℕ → Addr → ℕ → Type 0
IsTakenId qs sock server id = (q : Open) × Contains qs q × IsOnLine sock server id q

-- No open query's ask is like this one: none left the socket for the server under the ID; over TCP none went under the
-- number.
abbrev pub IsFreeBy : List Open → Path → Addr → ℕ → Type 0
IsFreeBy qs (ByUdp sock) server id = IsTakenId qs sock server id → ⊥
IsFreeBy qs (ByTcp number) server id = (q : Open) → Contains qs q → IsOnStream number q → ⊥

abbrev pub IsFree : List Open → Ask → Type 0
IsFree qs a = IsFreeBy qs a.path a.server a.id

-- An open query of this number is so.
pub record Stands (P : Open → Type 0) (qs : List Open) (number : ℕ) : Type 0 where
  pub query : Open
  pub stands : Contains qs query
  pub is : P query
  pub number_is : query.number ≡ number

abbrev pub IsFound : (Open → Type 0) → List Open → Option ℕ → Type 0
IsFound P qs None = (q : Open) → Contains qs q → P q → ⊥
IsFound P qs (Some number) = Stands P qs number

-- Which of two is due first: the older one among equals.
abbrev pub IsNoLater : ℕ → ℕ → Open → Type 0
IsNoLater due number p = (due < due_moment p) ⊎ ((due ≡ due_moment p) × (number ≤ p.number))

-- The query that is due first, its due moment and its number.
pub record IsEarliestQuery (qs : List Open) (due number : ℕ) : Type 0 where
  pub query : Open
  pub stands : Contains qs query
  pub due_is : due_moment query ≡ due
  pub number_is : query.number ≡ number
  pub first : (p : Open) → Contains qs p → IsNoLater due number p

abbrev pub IsEarliest : List Open → Option (ℕ × ℕ) → Type 0
IsEarliest qs None = qs ≡ []
IsEarliest qs (Some first) = IsEarliestQuery qs first.0 first.1

-- None has this number.
abbrev pub HasNo : List Open → ℕ → Type 0
HasNo qs number = (q : Open) → Contains qs q → q.number ≢ number

-- The one query of this number.
pub record IsTheOne (qs : List Open) (number : ℕ) (q : Open) : Type 0 where
  pub stands : Contains qs q
  pub number_is : q.number ≡ number
  pub alone : (p : Open) → Contains qs p → p.number ≡ number → p ≡ q

-- It is taken out.
pub record IsTaken (old : List Open) (number : ℕ) (q : Open) (new : List Open) : Type 0 where
  pub one : IsTheOne old number q
  pub others : AreOthers number old new
  pub fewer : length old ≡ length new + 1

-- The slots hold no two queries of one number.
abbrev pub IsApart : Slab Open → Type 0
IsApart s = (i j : ℕ) (v w : Open) → get s i ≡ Some v → get s j ≡ Some w → v.number ≡ w.number → i ≡ j
