-- The queries that wait for other servers, as they are noted to count them.
use Rattle.std.specs.Prelude.{◌≡◌, ℕ, ◌-◌, Bool, true, false, cond, ◌&&◌, nat_eq, nat_le, nat_lt, List, ◌∷◌, length, IsPermutation}
use Rattle.std.specs.List.{filter, count_by}
use Rattle.wire.specs.declared.via.Via.{Via}
use Rattle.wire.specs.declared.via.Via.TheVariants.{Udp, Tcp}
use Rattle.server.specs.declared.query.Asker.{Asker}
use Rattle.server.specs.declared.tally.Arrival.{Arrival}

-- A reply may come for 12 seconds.
abbrev pub may_be_open : ℕ → Arrival → Bool
may_be_open now query = nat_lt (now - query.moment) 12_000

-- Which stay where one more comes: where 1,024 are noted, those to which a reply may still come, and else all.
abbrev pub staying : ℕ → List Arrival → List Arrival
staying now noted = cond (nat_le 1_024 (length noted)) (filter (may_be_open now) noted) noted

abbrev pub is_same_way : Via → Via → Bool
is_same_way Udp Udp = true
is_same_way Udp Tcp = false
is_same_way Tcp Udp = false
is_same_way Tcp Tcp = true

-- Whether a query is this asker's, and has this ID.
abbrev pub is_of : Asker → ℕ → Arrival → Bool
is_of asker id query =
    (nat_eq query.asker.client asker.client && is_same_way query.asker.way asker.way) && nat_eq query.id id

-- None of this asker has this ID, and all stay.
abbrev pub IsUnknown : Asker → ℕ → List Arrival → List Arrival → Type 0
IsUnknown asker id before after = (count_by (is_of asker id) before ≡ 0) × (after ≡ before)

-- One of this asker with this ID came at that moment and leaves. The others stay, in some order.
pub record IsTaken (asker : Asker) (id : ℕ) (before after : List Arrival) (moment : ℕ) : Type 0 where
  pub query : Arrival
  pub its : is_of asker id query ≡ true
  pub came : moment ≡ query.moment
  pub others : IsPermutation before (query ∷ after)
