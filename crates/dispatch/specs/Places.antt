-- The places of clients' streams.
use Rattle.std.specs.Prelude.{ℕ, Bool, true, false, List, [], ◌∷◌, ◌++◌, take, drop, ◌/◌, max, slice_index}
use Rattle.std.specs.Int.{w64, to_be_bytes, from_be_bytes}

-- The address, the lower three bytes of the count of streams, and then the place.
abbrev pub number_at : List ℕ → ℕ → ℕ → ℕ
number_at address serial place = from_be_bytes w64 (address ++ (drop 5 (to_be_bytes w64 serial) ++ place ∷ []))

-- The last byte.
abbrev pub place_in : ℕ → ℕ
place_in number = slice_index (to_be_bytes w64 number) 7

-- A client at the stream's address, its place for a port.
abbrev pub client_in : ℕ → ℕ
client_in number = from_be_bytes w64 (0 ∷ 0 ∷ (take 4 (to_be_bytes w64 number) ++ (0 ∷ place_in number ∷ [])))

-- Three seconds, shared by the places; while replies are awaited ten, but a second at least.
abbrev pub silence_of : ℕ → Bool → ℕ
silence_of places true = max (10000 / max places 1) 1000
silence_of places false = 3000 / max places 1
