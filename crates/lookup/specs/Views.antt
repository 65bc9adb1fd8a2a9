-- The code's home, stores and links, seen as the plain values of the rules.
use Rattle.std.specs.Prelude.{ℕ, ◌≤◌, Bool, true, false, Option, Some, None, List, [], ◌∷◌, length, map}
use Rattle.dname.specs.Labels.{Name, root}
use Rattle.rdata.specs.Records.{Record, greatest_ttl}
use Rattle.rdata.specs.declared.addr.Addr.{Addr}
use Rattle.zone.specs.Zones.{Zone}
use Rattle.zone.specs.Links.{Link, Found, Alias, NoData, NxDomain}
use Rattle.classify.specs.Lifetimes.{lifetime_of}
use Rattle.referral.specs.Cuts.{ServerAddress, Cut}
use Rattle.referral.specs.Cuts as referral
use Rattle.cache.specs.Cached as cache
use Rattle.cache.specs.Failures.{FailedAsk, after_failed, after_is_failed}
use Rattle.resolution.specs.Jobs.{Home, Stores, Source as SourceSpec, Taken}
use Rattle.resolution.specs.Jobs as rules
use Rattle.counters.specs.declared.stores.StoreSizes.{StoreSizes}
use Rattle.lookup.specs.declared.taken.Source.{Source}
use Rattle.lookup.specs.declared.taken.Source.TheVariants as origin

-- The local zones and the root's cut: the hints are the addresses of that cut.
abbrev pub home_at : List Zone → List Addr → Home
home_at zones hints = record { zones = zones; hints = hints }

abbrev pub hints_of : Cut → List Addr
hints_of c = map (λ (s : ServerAddress). s.address) c.addresses

abbrev pub home_of : List Zone → Cut → Home
home_of zones root = home_at zones (hints_of root)

-- The owner of a link's own records; the name of a link, which is another one where that is given.
abbrev pub owner_of_all : List Record → Name
owner_of_all [] = root
owner_of_all (r ∷ rs) = r.owner

abbrev pub owner_in : Link → Name
owner_in (Found set) = owner_of_all set
owner_in (Alias r) = r.owner
owner_in (NoData soa) = soa.owner
owner_in (NxDomain soa) = soa.owner

abbrev pub name_of : Option Name → Link → Name
name_of None l = owner_in l
name_of (Some n) l = n

-- The source of a link.
abbrev pub source_view : Source → SourceSpec
source_view origin.Local = rules.Local
source_view (origin.Cached ttl since) = rules.Cached ttl since
source_view (origin.Accepted ttl since) = rules.Accepted ttl since

abbrev pub is_at_hand : SourceSpec → Bool
is_at_hand rules.Local = true
is_at_hand (rules.Cached ttl since) = false
is_at_hand (rules.Accepted ttl since) = false

-- The TTL of a source is one that a record may have.
abbrev pub IsBounded : SourceSpec → Type 0
IsBounded rules.Local = Unit {0}
IsBounded (rules.Cached ttl since) = ttl ≤ greatest_ttl
IsBounded (rules.Accepted ttl since) = ttl ≤ greatest_ttl

abbrev pub taken_at : Name → Link → SourceSpec → Taken
taken_at n l source = record { name = n; link = l; source = source }

-- A link within the limits on TTLs that was accepted at this moment.
abbrev pub accepted_link : Name → Link → ℕ → Taken
accepted_link n l now = taken_at n l (rules.Accepted (lifetime_of l) now)

-- How many entries each store has.
abbrev pub sizes_of : Stores → StoreSizes
sizes_of s = record { cache = length s.cache; delegations = length s.delegations; penalties = length s.penalties; failures = length s.failures }

-- Empty stores.
abbrev pub no_stores : ℕ → ℕ → ℕ → ℕ → Stores
no_stores links cuts servers failures = record {
  cache = [];
  cache_cap = links;
  delegations = [];
  delegations_cap = cuts;
  penalties = [];
  penalties_cap = servers;
  failures = [];
  failures_cap = failures;
}

-- The stores after a link that is within the limits on TTLs is cached for a name and a type; after a cut is.
abbrev pub with_link : Stores → Name → ℕ → Link → ℕ → Stores
with_link stores n t l now = record stores { cache = cache.after_keep stores.cache_cap n t (cache.as_kept l (lifetime_of l) now) stores.cache }

abbrev pub with_cut : Stores → Cut → ℕ → ℕ → Stores
with_cut stores c ttl now = record stores { delegations = referral.after_keep stores.delegations_cap (rules.cut_from c ttl now) stores.delegations }

-- The stores after a look-up in the cache, or in the delegations.
abbrev pub after_look : Stores → cache.Question → ℕ → Stores
after_look stores a now = record stores { cache = cache.moved (cache.lent a now stores.cache) stores.cache }

abbrev pub after_best : Stores → Name → ℕ → Stores
after_best stores n now = record stores { delegations = referral.after_best n now stores.delegations }

-- The stores after a server failed to answer a question, and after a look-up whether one did.
abbrev pub with_failed : Stores → FailedAsk → ℕ → Stores
with_failed stores k now = record stores { failures = after_failed stores.failures_cap k now stores.failures }

abbrev pub after_failure_look : Stores → FailedAsk → ℕ → Stores
after_failure_look stores k now = record stores { failures = after_is_failed now k stores.failures }
