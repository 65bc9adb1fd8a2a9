-- How open queries are found without going through all: each number has its slot, and each query waits for its ask.
use Rattle.std.specs.Prelude.{◌≡◌, ℕ, Bool, false, nat_eq, Option, Some, None, List, Contains}
use Rattle.std.specs.Map.{lookup}
use Rattle.slab.specs.Slab.{Slab, get, values}
use Rattle.rdata.specs.declared.addr.Addr.{Addr}
use Rattle.asks.specs.declared.ask.AskKey.{AskKey}
use Rattle.asks.specs.declared.ask.Waiting.{Waiting}
use Rattle.asks.specs.Waits.{waiting}
use Rattle.runs.specs.States.{Path, ByUdp, ByTcp, Ask, Open, due_moment}
use Rattle.open_queries.specs.Lookups.{IsOnStream, HasNo, IsTheOne, IsApart}

-- An ask that went over UDP; the number of one that went over TCP.
abbrev pub ask_by : Path → Addr → ℕ → Option AskKey
ask_by (ByUdp sock) server id = Some (record { socket = sock; server = server; id = id })
ask_by (ByTcp number) server id = None

abbrev pub number_by : Path → Option ℕ
number_by (ByUdp sock) = None
number_by (ByTcp number) = Some number

abbrev pub udp_ask : Ask → Option AskKey
udp_ask a = ask_by a.path a.server a.id

abbrev pub tcp_ask : Ask → Option ℕ
tcp_ask a = number_by a.path

-- Whether it is this number.
abbrev pub is_number : ℕ → Option ℕ → Bool
is_number n None = false
is_number n (Some number) = nat_eq number n

-- What an open query waits for.
abbrev pub held : Open → Waiting
held q = record { ask = udp_ask q.ask; due = due_moment q }

-- The slot of a number has its query; where there is none, no query has the number.
abbrev pub LeadsTo : Slab Open → ℕ → Option ℕ → Type 0
LeadsTo s number None = HasNo (values s) number
LeadsTo s number (Some key) = (q : Open) × (get s key ≡ Some q) × (q.number ≡ number)

-- The one query of a number waits so; where none waits, no query has the number.
abbrev pub WaitsAs : List Open → ℕ → Option Waiting → Type 0
WaitsAs qs number None = HasNo qs number
WaitsAs qs number (Some w) = (q : Open) × IsTheOne qs number q × (w ≡ held q)

-- The one query whose ask went over TCP under a number; where none stands, there is none.
abbrev pub StreamsTo : List Open → ℕ → Option ℕ → Type 0
StreamsTo qs ask None = (q : Open) → Contains qs q → IsOnStream ask q → ⊥
StreamsTo qs ask (Some number) = (q : Open) × IsTheOne qs number q × IsOnStream ask q × ((p : Open) → Contains qs p → IsOnStream ask p → p.number ≡ number)

pub record AreIndexed (s : Slab Open) (keys streams : List (ℕ × ℕ)) (asks : List (ℕ × Waiting)) : Type 0 where
  pub apart : IsApart s
  pub keyed : (number : ℕ) → LeadsTo s number (lookup (nat_eq number) keys)
  pub streamed : (ask : ℕ) → StreamsTo (values s) ask (lookup (nat_eq ask) streams)
  pub waits : (number : ℕ) → WaitsAs (values s) number (waiting asks number)
