-- Addresses of sockets.
use Rattle.std.specs.Prelude.{◌≡◌, ℕ, ◌⊎◌, List, [], ◌∷◌, ◌++◌, take}
use Rattle.std.specs.Int.{w16, to_be_bytes}
use Rattle.std.specs.Net.Addr.{ipv4_octets}
use Rattle.std.specs.Net.Socket.{v4_ip, v4_port}
use Rattle.std.specs.declared.net.socket_addr.SocketAddr.{SocketAddr}
use Rattle.std.specs.declared.net.socket_addr.SocketAddr.TheVariants.{V4, V6}
use Rattle.events.specs.declared.path.Endpoint.{Endpoint}

-- It is this IPv4 address with this port.
abbrev pub IsAt : SocketAddr → Endpoint → Type 0
IsAt (V4 a) e = (ipv4_octets (v4_ip a) ≡ (e.address).0) × (v4_port a ≡ e.port)
IsAt (V6 a) e = ⊥

-- It is no IPv4 address.
abbrev pub IsElsewhere : SocketAddr → Type 0
IsElsewhere (V4 a) = ⊥
IsElsewhere (V6 a) = Unit {0}

-- It is this IPv4 address with this port, or with any where that is 0.
abbrev pub IsBoundTo : SocketAddr → Endpoint → Type 0
IsBoundTo address listen =
    (e : Endpoint) × IsAt address e × (e.address ≡ listen.address) × ((listen.port ≡ 0) ⊎ (e.port ≡ listen.port))

-- These bytes begin with the family of IPv4, which is 2 in the machine's order, the port, and the address (ip(7)).
abbrev pub IsWritten : List ℕ → Endpoint → Type 0
IsWritten bytes e = take 8 bytes ≡ (2 ∷ 0 ∷ []) ++ to_be_bytes w16 e.port ++ (e.address).0
