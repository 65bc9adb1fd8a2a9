use Rattle.std.proofs.Common.{◌≡◌, ℕ, List, take}
use Rattle.worlds.specs.Rules.{has_name, serves}
use Rattle.worlds.proofs.hosting.served_origins.Given as goal

abbrev pub invariant-loop-host : goal.invariant-loop-host
invariant-loop-host g l = (n : List (List ℕ)) → has_name n l.origins.items ≡ serves l.address.0 n (take l.host-index l.hosts)
