-- Clients who ask in datagrams: the number of each holds its address and its port.
use Rattle.std.specs.Prelude.{ℕ, List, ◌∷◌, ◌++◌, take, drop}
use Rattle.std.specs.Int.{w16, w64, to_be_bytes, from_be_bytes}
use Rattle.events.specs.declared.path.Endpoint.{Endpoint}

-- Two bytes of zero, the four of the address and the two of the port, the highest first.
abbrev pub client_number : Endpoint → ℕ
client_number e = from_be_bytes w64 (0 ∷ 0 ∷ ((e.address).0 ++ to_be_bytes w16 e.port))

-- The address and the port in eight bytes.
abbrev pub sender_from : List ℕ → Endpoint
sender_from bytes = record { address = record { 0 = take 4 (drop 2 bytes) }; port = from_be_bytes w16 (drop 6 bytes) }

abbrev pub sender_in : ℕ → Endpoint
sender_in n = sender_from (to_be_bytes w64 n)
