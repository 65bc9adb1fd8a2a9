-- The result of one walk up from a name in a zone.
use Rattle.std.specs.Prelude.{◌≡◌, ℕ, ◌+◌, false, cond, is_some, Option, Some, None, List, [], ◌∷◌}
use Rattle.dname.specs.Labels.{star, same_name}
use Rattle.rdata.specs.Records.{Record}
use Rattle.zone.specs.declared.tree.Stand.{Stand}
use Rattle.zone.specs.Tree.{has_under}
use Rattle.zone.specs.Zones.{Zone}
use Rattle.zone.specs.Links.{Link, NxDomain}
use Rattle.zone.specs.Look.{at, cut_of, climbed, said, said_wild}
use Rattle.authority.specs.Values.{IsTimed, AreTimedIn}
use Rattle.authority.specs.declared.walk.Walk.{Walk}

-- The records of a name, and of the wildcard right under it; none where the name has no node.
abbrev pub own_of : {H : Type 0} → Option (Stand H) → List Record
own_of None = []
own_of (Some s) = s.own

abbrev pub wild_of : {H : Type 0} → Option (Stand H) → Option (List Record)
wild_of None = None
wild_of (Some s) = Some s.wild

-- The records of a name and of its wildcard.
pub record Stands {H : Type 0} (n : List (List ℕ)) (rs : List Record) (o : Option (Stand H)) : Type 0 where
  pub under : is_some o ≡ has_under n rs
  pub own : own_of o ≡ at n rs
  pub wild : wild_of o ≡ cond (has_under n rs) (Some (at (star ∷ n) rs)) None

abbrev pub near_or : Option (List Record) → Option (List Record) → Option (List Record)
near_or (Some ws) d = Some ws
near_or None d = d

-- The link of the wildcard that was met; where none was, the link that is found further up.
abbrev pub met : Record → List (List ℕ) → ℕ → Option (List Record) → Link → Link
met soa q t (Some ws) l = said_wild soa q t ws
met soa q t None l = l

-- The link of the records of a name, and where the name has no node, of the wildcard at its closest encloser.
abbrev pub told : {H : Type 0} → Record → List (List ℕ) → ℕ → Option (Stand H) → Option (List Record) → Link
told soa q t (Some s) near = said soa q t s.own
told soa q t None near = met soa q t near (NxDomain soa)

-- How many names have a node, from this name up to the origin.
abbrev pub nodes_met : Zone → List (List ℕ) → ℕ
nodes_met z [] = 0
nodes_met z (l ∷ ls) = cond (has_under (l ∷ ls) z.records) 1 0 + cond (same_name (l ∷ ls) z.origin) 0 (nodes_met z ls)

-- A whole walk: the cut, the records of the name, those of the nearest wildcard above it where the name has no node, and
-- how many nodes were met up to the origin.
pub record IsWalk {H : Type 0} (z : Zone) (q : List (List ℕ)) (w : Walk H) : Type 0 where
  pub cut : w.cut ≡ cut_of z q
  pub here : Stands q z.records w.here
  pub near : has_under q z.records ≡ false → (soa : Record) (t : ℕ) → met soa q t w.near (NxDomain soa) ≡ climbed soa q t z.records q
  pub here_timed : IsTimed w.here
  pub near_timed : AreTimedIn w.near
  pub count : w.count ≡ nodes_met z q
