-- How long the records of a reply are cached (RFC 2181, section 8; RFC 2308, sections 3 and 5).
use Rattle.std.specs.Prelude.{ℕ, min, ◌≤◌, List, [], ◌∷◌, map}
use Rattle.limits.specs.Limits.{max_ttl, max_negative_ttl}
use Rattle.rdata.specs.Records.{Record}
use Rattle.rdata.specs.Caps.{capped}
use Rattle.rdata.specs.Sets.{lowest_ttl}
use Rattle.zone.specs.Links.{Link, Found, Alias, NoData, NxDomain, lessened}
use Rattle.zone.specs.Same.{SameLink}

abbrev pub received_denial : Record → Record
received_denial soa = capped max_negative_ttl (lessened soa)

-- A link as it is cached and sent.
abbrev pub received : Link → Link
received (Found rs) = Found (map (capped max_ttl) rs)
received (Alias r) = Alias (capped max_ttl r)
received (NoData soa) = NoData (received_denial soa)
received (NxDomain soa) = NxDomain (received_denial soa)

-- The lowest TTL of its records; of no records 0.
abbrev pub shortest : List Record → ℕ
shortest [] = 0
shortest (r ∷ rs) = lowest_ttl (r ∷ rs)

abbrev pub lifetime_of : Link → ℕ
lifetime_of (Found rs) = shortest rs
lifetime_of (Alias r) = r.ttl
lifetime_of (NoData soa) = soa.ttl
lifetime_of (NxDomain soa) = soa.ttl

-- For how long a referral with this lowest TTL is cached: a week at most.
abbrev pub referral_lifetime : ℕ → ℕ
referral_lifetime ttl = min ttl max_ttl

-- A link that is received differs from that of the reply in TTLs alone, and is cached for a week at most.
abbrev pub ReceivedIsSame : Type 0
ReceivedIsSame = (l : Link) → SameLink (received l) l

abbrev pub ReceivedIsShort : Type 0
ReceivedIsShort = (l : Link) → lifetime_of (received l) ≤ max_ttl
