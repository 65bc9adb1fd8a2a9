-- Servers one by one, of which each address has one.
use Rattle.std.specs.Prelude.{Bool, cond, nat_eq, List, [], ◌∷◌, ◌++◌}
use Rattle.std.specs.Cmp.Lexicographic.{pointwise}
use Rattle.world_truth.specs.Worlds.{Address, Host}
use Rattle.worlds.specs.Kept.{host_with}

abbrev pub has_address : Address → Host → Bool
has_address a h = pointwise nat_eq h.address a

-- The zones of both.
abbrev pub joined : Host → Host → Host
joined g h = host_with g.address (g.origins ++ h.origins)

-- What is said of a server that has a line already adds to it.
abbrev pub with_host : Host → List Host → List Host
with_host h [] = h ∷ []
with_host h (g ∷ gs) = cond (has_address h.address g) (joined g h ∷ gs) (g ∷ with_host h gs)
