-- The loops of a server, by their numbers: for the datagrams of clients, their streams, the clock, the datagrams of other
-- servers, and asks over TCP. All behind these five are for the datagrams of clients, as the first is.
use Rattle.std.specs.Prelude.{◌≡◌, ◌⊎◌, ℕ, ◌+◌, ◌<◌}
use Rattle.dispatch.specs.declared.roles.Role.{Role}
use Rattle.dispatch.specs.declared.roles.Role.TheVariants.{Datagrams, Streams, Clock, Upstream, Asks}

abbrev pub IsRole : ℕ → Role → Type 0
IsRole worker Datagrams = (worker ≡ 0) ⊎ (4 < worker)
IsRole worker Streams = worker ≡ 1
IsRole worker Clock = worker ≡ 2
IsRole worker Upstream = worker ≡ 3
IsRole worker Asks = worker ≡ 4

-- How many loops there are where so many are for the datagrams of clients.
abbrev pub loop_count : ℕ → ℕ
loop_count takers = takers + 4
