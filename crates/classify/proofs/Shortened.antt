-- What is received is what was said, for a week at most.
use Rattle.std.proofs.Common.{◌≡◌, ℕ, ◌≤◌, min, List, [], ◌∷◌, length, map, refl, sym, ap, arith}
use Rattle.std.specs.Prelude.{Contains}
use Rattle.rdata.specs.Records.{Record}
use Rattle.rdata.specs.Caps.{capped}
use Rattle.rdata.specs.Sets.{lowest_ttl}
use Rattle.zone.specs.Links.{Link, Found, Alias, NoData, NxDomain}
use Rattle.zone.specs.Same.{Has, SameLink}
use Rattle.zone.proofs.LawLists.{map_of, map_in}
use Rattle.world_truth.proofs.Sames.{same_one}
use Rattle.limits.specs.Limits.{max_ttl, max_negative_ttl}
use Rattle.classify.specs.Lifetimes.{received, received_denial, shortest, lifetime_of}

capped_of : (rs : List Record) (r : Record) → Contains (map (capped max_ttl) rs) r → Has rs r
capped_of rs r h = let (s, m, e) = map_of (capped max_ttl) rs r h in (s, m, (ap (λ (x : Record). x.owner) (sym e), ap (λ (x : Record). x.value) (sym e)))

capped_has : (rs : List Record) (r : Record) → Contains rs r → Has (map (capped max_ttl) rs) r
capped_has rs r h = (capped max_ttl r, map_in (capped max_ttl) rs r h, (refl, refl))

pub received_same : (l : Link) → SameLink (received l) l
received_same (Found rs) = record { kinds = refl; records = (capped_of rs, capped_has rs) }
received_same (Alias r) = record { kinds = refl; records = same_one (capped max_ttl r) r (refl, refl) }
received_same (NoData soa) = record { kinds = refl; records = same_one (received_denial soa) soa (refl, refl) }
received_same (NxDomain soa) = record { kinds = refl; records = same_one (received_denial soa) soa (refl, refl) }

least_first : (a b : ℕ) → a ≤ max_ttl → min a b ≤ max_ttl
least_first a b le = omega (arith, le)

least_second : (a b : ℕ) → b ≤ max_ttl → min a b ≤ max_ttl
least_second a b le = omega (arith, le)

short_set : (rs : List Record) → shortest (map (capped max_ttl) rs) ≤ max_ttl
short_set [] = omega arith
short_set (r ∷ rs) = least_first (min r.ttl max_ttl) (lowest_ttl (map (capped max_ttl) rs)) (least_second r.ttl max_ttl (omega arith))

short_denial : (n : ℕ) → min n max_negative_ttl ≤ max_ttl
short_denial n = least_second n max_negative_ttl (omega arith)

pub received_short : (l : Link) → lifetime_of (received l) ≤ max_ttl
received_short (Found rs) = short_set rs
received_short (Alias r) = least_second r.ttl max_ttl (omega arith)
received_short (NoData soa) = short_denial _
received_short (NxDomain soa) = short_denial _

pub some_shortest : (rs : List Record) → 1 ≤ length rs → lowest_ttl rs ≡ shortest rs
some_shortest [] h = absurd (omega (arith, h))
some_shortest (r ∷ rs) h = refl
