-- Members of lists of addresses.
use Rattle.std.specs.Prelude.{ℕ, List, Contains, filter, length}
use Rattle.rdata.specs.declared.addr.Addr.{Addr}
use Rattle.retry.specs.Penalties.{same_addr}

-- Each of the first list is one of the second.
abbrev pub AreAmong : List Addr → List Addr → Type 0
AreAmong xs ys = (a : Addr) → Contains xs a → Contains ys a

-- How often an address stands in a list.
abbrev pub times : Addr → List Addr → ℕ
times a xs = length (filter (same_addr a) xs)
