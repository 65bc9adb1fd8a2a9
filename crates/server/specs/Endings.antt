-- When a client's stream ends, and when it gives way to another that comes.
use Rattle.std.specs.Prelude.{◌≡◌, ℕ, ◌-◌, ◌/◌, max, Bool, false, cond, not, ◌&&◌, ◌||◌, is_some, Option, Some, None, nat_le, nat_lt}
use Rattle.dispatch.specs.Places.{silence_of}
use Rattle.server.specs.declared.client_stream.ClientStream.{ClientStream}
use Rattle.server.specs.declared.client_stream.StreamState.{StreamState}
use Rattle.server.specs.declared.places.Yielder.{Yielder}
use Rattle.server.specs.declared.places.Yielder.TheVariants.{Nobody, Anyone, ItsOwn}
use Rattle.server.specs.declared.places.Room.{Room}
use Rattle.server.specs.declared.places.Room.TheVariants.{Taken, TooMany}

-- Whether a client has ended what it sends, so many milliseconds ago at least.
abbrev pub has_left_for : ℕ → Option ℕ → Bool
has_left_for wanted None = false
has_left_for wanted (Some left) = nat_le wanted left

-- A stream that has failed ends. While a reply is being written, it ends where no byte of it was taken for 3 seconds.
-- While replies are awaited, it ends after 12 seconds of silence, or half a second after its client ended what it sends.
-- Else it ends after 10 seconds of silence, and at once where no question will come any more.
abbrev pub ends_by : StreamState → Bool
ends_by s =
    s.failed || cond s.writes (nat_le 3_000 s.untaken)
    (cond s.awaits (nat_le 12_000 s.silence || has_left_for 500 s.left) (nat_le 10_000 s.silence || (s.closing || is_some s.left)))

-- Where all of so many places are taken, a stream gives way once its client has ended what it sends, or once it was
-- silent for as long as a stream may be then.
abbrev pub gives_way_by : StreamState → ℕ → Bool
gives_way_by s places = is_some s.left || nat_le (silence_of places (s.awaits || s.writes)) s.silence

-- For how long a client has ended what it sends, if it has.
abbrev pub left_for : ℕ → Option ℕ → Option ℕ
left_for now None = None
left_for now (Some left) = Some (now - left)

-- This is what a stream shows at a moment, but for what its socket tells.
abbrev pub IsStateAt : ClientStream → ℕ → StreamState → Type 0
IsStateAt stream now s =
    (s.untaken ≡ now - stream.taken) × (s.awaits ≡ nat_lt 0 stream.awaited) × (s.silence ≡ now - stream.since)
    × (s.left ≡ left_for now stream.left) × (s.closing ≡ stream.closing)

-- One address has a quarter of the places, but one at least.
abbrev pub share_of : ℕ → ℕ
share_of places = max (places / 4) 1

-- Who gives way to a stream whose address has so many streams, where so many places are taken: one of its own where it
-- has its share, and anyone where it has not and all places are taken.
abbrev pub yielder_by : ℕ → ℕ → ℕ → Yielder
yielder_by has taken places =
    cond (nat_lt has (share_of places)) (cond (nat_lt taken places) Nobody Anyone) ItsOwn

-- A stream to which none gave way waits where all places are taken and nobody's stream would give way. Else it is
-- dropped.
abbrev pub room_by : Bool → Bool → Room
room_by is_full one_yields = cond (is_full && not one_yields) Taken TooMany
