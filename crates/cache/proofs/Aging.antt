-- What age changes.
use Rattle.std.proofs.Common.{◌≡◌, ◌≢◌, ℕ, ◌-◌, ◌*◌, ◌/◌, ◌≤◌, ◌<◌, true, List, [], ◌∷◌, map, refl, sym, ap, arith}
use Rattle.std.proofs.lemmas.Bool.{ltb-true}
use Rattle.rdata.specs.Records.{Record}
use Rattle.rdata.specs.Sets.{with_ttl}
use Rattle.zone.specs.Links.{Link, Found, Alias, NoData, NxDomain}
use Rattle.zone.specs.Same.{SameSet, SameLink}
use Rattle.zone.proofs.LawLists.{map_of, map_in}
use Rattle.cache.specs.Cached.{Hit, is_live, retimed, left_of, aged}

set_same : (ttl : ℕ) (rs : List Record) → SameSet (map (with_ttl ttl) rs) rs
set_same ttl rs = (
  λ r m. let (s, n, e) = map_of (with_ttl ttl) rs r m in (s, n, (ap (λ (x : Record). x.owner) (sym e), ap (λ (x : Record). x.value) (sym e))),
  λ r m. (with_ttl ttl r, map_in (with_ttl ttl) rs r m, (refl, refl)),
)

pub retimed_same : (ttl : ℕ) (l : Link) → SameLink (retimed ttl l) l
retimed_same ttl (Found rs) = record { kinds = refl; records = set_same ttl rs }
retimed_same ttl (Alias r) = record { kinds = refl; records = set_same ttl (r ∷ []) }
retimed_same ttl (NoData soa) = record { kinds = refl; records = set_same ttl (soa ∷ []) }
retimed_same ttl (NxDomain soa) = record { kinds = refl; records = set_same ttl (soa ∷ []) }

pub aged_same : (now : ℕ) (h : Hit) → SameLink (aged now h) h.link
aged_same now h = retimed_same (left_of now h) h.link

second_left : (age ttl : ℕ) → age < 1000 * ttl → ttl - age / 1000 ≢ 0
second_left age ttl lt is = absurd (omega arith)

pub live_is_left : (now : ℕ) (h : Hit) → is_live now h ≡ true → left_of now h ≢ 0
live_is_left now h lives = second_left (now - h.since) h.ttl (ltb-true (now - h.since) (1000 * h.ttl) lives)

less : (a b : ℕ) → a - b ≤ a
less a b = omega arith

pub left_is_less : (now : ℕ) (h : Hit) → left_of now h ≤ h.ttl
left_is_less now h = less h.ttl ((now - h.since) / 1000)

no_age : (ttl since : ℕ) → ttl - (since - since) / 1000 ≡ ttl
no_age ttl since = omega arith

pub new_is_whole : (h : Hit) → aged h.since h ≡ retimed h.ttl h.link
new_is_whole h = ap (λ n. retimed n h.link) (no_age h.ttl h.since)
