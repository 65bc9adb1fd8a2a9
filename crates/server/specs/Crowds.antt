-- Asks over TCP that wait for a place.
use Rattle.std.specs.Prelude.{ℕ, Bool, ◌-◌, ◌/◌, ◌&&◌, ◌||◌, not, cond, nat_eq, nat_le, nat_lt, List}
use Rattle.std.specs.Cmp.Lexicographic.{pointwise}
use Rattle.std.specs.List.{list_any}
use Rattle.counters.specs.declared.labels.AskFault.TheVariants.{Silent, Crowded}
use Rattle.rdata.specs.declared.addr.Addr.{Addr}
use Rattle.server.specs.declared.outbox.StreamAsk.{StreamAsk}
use Rattle.server.specs.declared.crowd.Places.{Places}
use Rattle.server.specs.declared.crowd.Turn.{Turn}
use Rattle.server.specs.declared.crowd.Turn.TheVariants.{Begins, Waits, Fails}

-- A place is free, and fewer than 32 asks are under way to this server: none, or over a quarter of all places is free.
abbrev pub admits : Places → ℕ → Bool
admits places at_server =
    nat_lt 0 places.free && (nat_lt at_server 32 && (nat_eq at_server 0 || nat_lt (places.most / 4) places.free))

-- An ask has 3 seconds. In them it begins where the places admit it. Else it waits, where fewer than 1,024 do in all.
abbrev pub turn_by : ℕ → Places → ℕ → ℕ → Turn
turn_by waited_ms places at_server waiting =
    cond (nat_le 3_000 waited_ms) (Fails Silent)
    (cond (admits places at_server) Begins (cond (nat_lt waiting 1_024) Waits (Fails Crowded)))

abbrev pub same_address : Addr → Addr → Bool
same_address a b = pointwise nat_eq a.0 b.0

-- Whether the server of an ask is none of these.
abbrev pub is_elsewhere : List Addr → StreamAsk → Bool
is_elsewhere full ask = not (list_any (λ server. same_address server ask.to.address) full)

-- Whether its 3 seconds are over.
abbrev pub is_late : ℕ → StreamAsk → Bool
is_late now ask = nat_le 3_000 (now - ask.moment)
