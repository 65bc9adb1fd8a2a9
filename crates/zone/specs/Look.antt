-- The look-up as a function: its result is the link, or the cut, of the definitions.
use Rattle.std.specs.Prelude.{ℕ, Bool, false, ◌&&◌, ◌||◌, not, cond, nat_eq, is_some, Option, Some, None, List, [], ◌∷◌, ◌++◌, map, filter, find, fold}
use Rattle.std.specs.List.{list_any, flat_map}
use Rattle.dname.specs.Labels.{star, same_name, is_under}
use Rattle.rdata.specs.Data.{Datum, Ns, type_of, same_data}
use Rattle.rdata.specs.Records.{Record}
use Rattle.rdata.specs.Sets.{is_repeat}
use Rattle.zone.specs.Zones.{Zone, a_type, ns_type, cname_type, soa_type, aaaa_type}
use Rattle.zone.specs.Links.{Link, Found, Alias, NoData, NxDomain, lessened}

abbrev pub is_type : ℕ → Record → Bool
is_type t r = nat_eq (type_of r.value) t

abbrev pub is_owned : List (List ℕ) → Record → Bool
is_owned n r = same_name r.owner n

-- The records at a name; those of a type.
abbrev pub at : List (List ℕ) → List Record → List Record
at n rs = filter (is_owned n) rs

abbrev pub of_type : ℕ → List Record → List Record
of_type t rs = filter (is_type t) rs

-- Some record of that type stands at that name.
abbrev pub owns : ℕ → List (List ℕ) → List Record → Bool
owns t n rs = list_any (λ (r : Record). is_owned n r && is_type t r) rs

abbrev pub is_cut : Zone → List (List ℕ) → Bool
is_cut z n = owns ns_type n z.records && not (same_name n z.origin)

abbrev pub or_else : Option (List (List ℕ)) → Option (List (List ℕ)) → Option (List (List ℕ))
or_else (Some c) d = Some c
or_else None d = d

-- The cut over a name that is nearest to the origin.
abbrev pub cut_of : Zone → List (List ℕ) → Option (List (List ℕ))
cut_of z [] = None
cut_of z (l ∷ ls) = or_else (cut_of z ls) (cond (is_cut z (l ∷ ls)) (Some (l ∷ ls)) None)

-- Whether the name is strictly under a cut.
abbrev pub is_beneath_cut : Zone → List (List ℕ) → Bool
is_beneath_cut z [] = false
is_beneath_cut z (l ∷ ls) = is_some (cut_of z ls)

abbrev pub exists : Zone → List (List ℕ) → Bool
exists z n = list_any (λ (r : Record). not (is_beneath_cut z r.owner) && is_under r.owner n) z.records

-- The closest encloser.
abbrev pub closest : Zone → List (List ℕ) → Option (List (List ℕ))
closest z [] = None
closest z (l ∷ ls) = cond (exists z (l ∷ ls)) (Some (l ∷ ls)) (closest z ls)

-- The records without repeats: the first of each datum, in order.
abbrev pub add_new : List Record → Record → List Record
add_new kept r = cond (list_any (λ (s : Record). same_data s.value r.value) kept) kept (kept ++ r ∷ [])

abbrev pub firsts : List Record → List Record
firsts rs = fold add_new [] rs

abbrev pub with_owner : List (List ℕ) → Record → Record
with_owner q r = record { owner = q; ttl = r.ttl; value = r.value }

-- The link that the records of a source give.
abbrev pub said_alias : Record → List (List ℕ) → List Record → Link
said_alias soa q [] = NoData soa
said_alias soa q (r ∷ rs) = Alias (with_owner q r)

abbrev pub said_by : Record → List (List ℕ) → List Record → List Record → Link
said_by soa q own [] = said_alias soa q (of_type cname_type own)
said_by soa q own (r ∷ rs) = Found (firsts (map (with_owner q) (r ∷ rs)))

abbrev pub said : Record → List (List ℕ) → ℕ → List Record → Link
said soa q t own = said_by soa q own (of_type t own)

abbrev pub said_wild : Record → List (List ℕ) → ℕ → List Record → Link
said_wild soa q t [] = NxDomain soa
said_wild soa q t (r ∷ rs) = said soa q t (r ∷ rs)

-- The records of the wildcard at the closest encloser.
abbrev pub wild_at : Zone → Option (List (List ℕ)) → List Record
wild_at z None = []
wild_at z (Some e) = at (star ∷ e) z.records

abbrev pub wild : Zone → List (List ℕ) → List Record
wild z q = wild_at z (closest z q)

abbrev pub link_by : Record → Zone → List (List ℕ) → ℕ → Link
link_by soa z q t = cond (exists z q) (said soa q t (at q z.records)) (said_wild soa q t (wild z q))

-- The link by the way up to the closest encloser where no cut stands: the first name above with an owner at or under
-- it, whose wildcard answers.
abbrev pub climbed : Record → List (List ℕ) → ℕ → List Record → List (List ℕ) → Link
climbed soa q t rs [] = said_wild soa q t []
climbed soa q t rs (l ∷ []) = said_wild soa q t []
climbed soa q t rs (l ∷ m ∷ ms) = cond (list_any (λ (r : Record). is_under r.owner (m ∷ ms)) rs) (said_wild soa q t (at (star ∷ m ∷ ms) rs)) (climbed soa q t rs (m ∷ ms))

-- The records of a referral: the NS set of the cut, and the addresses of its targets, target by target.
abbrev pub ns_of : Zone → List (List ℕ) → List Record
ns_of z c = firsts (of_type ns_type (at c z.records))

abbrev pub is_address : Record → Bool
is_address r = is_type a_type r || is_type aaaa_type r

abbrev pub addresses_of : List Record → Datum → List Record
addresses_of rs (Ns n) = filter (λ (r : Record). is_owned n r && is_address r) rs
addresses_of rs _ = []

abbrev pub add_glue : List Record → Record → List Record
add_glue kept r = cond (list_any (λ (s : Record). is_repeat s r) kept) kept (kept ++ r ∷ [])

abbrev pub glue_of : List Record → List Record → List Record
glue_of rs ns = fold add_glue [] (flat_map (λ (r : Record). addresses_of rs r.value) ns)

-- The result of a zone for a name: a link, or the cut that the name is referred to.
pub data Local : Type 0 where
  Linked : Link → Local
  Cut : List (List ℕ) → List Record → List Record → Local
  NotHere : Local

abbrev pub local_of : Record → Zone → List (List ℕ) → ℕ → Option (List (List ℕ)) → Local
local_of soa z q t None = Linked (link_by soa z q t)
local_of soa z q t (Some c) = Cut c (ns_of z c) (glue_of z.records (ns_of z c))

abbrev pub local_by : Record → Zone → List (List ℕ) → ℕ → Local
local_by soa z q t = local_of soa z q t (cut_of z q)

-- The SOA of the zone's negative answers, with the lesser TTL.
abbrev pub denial_by : Option Record → Option Record
denial_by None = None
denial_by (Some r) = Some (lessened r)

abbrev pub denial_of : Zone → Option Record
denial_of z = denial_by (find (is_type soa_type) z.records)
