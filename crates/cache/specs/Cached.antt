-- What a cache answers to a question, and its entries after each call.
use Rattle.std.specs.Prelude.{◌≡◌, ◌≢◌, ℕ, min, Bool, true, false, cond, nat_eq, ◌⊎◌, Option, Some, None, List, [], ◌∷◌, map, Contains}
use Rattle.std.specs.Map.{lookup, remove_entry}
use Rattle.lru.specs.LruCache.{LruCache, lru_cache}
use Rattle.dname.specs.Labels.{is_under}
use Rattle.rdata.specs.Records.{Record, greatest_ttl}
use Rattle.rdata.specs.Sets.{with_ttl}
use Rattle.zone.specs.Links.{Link, Found, Alias, NoData, NxDomain}
use Rattle.zone.specs.Zones.{cname_type}
use Rattle.rdata.specs.Ages.{is_young, seconds_left}
use Rattle.lru_laws.specs.Orders.{MayGo}
use Rattle.lru_laws.specs.Stores as stores
use Rattle.cache.specs.Keys.{Key, same_key, kind_key, error_key, key_for}

-- A cached link: its TTL in seconds, and the moment at which it was cached, in milliseconds.
pub record Hit : Type 0 where
  pub link : Link
  pub ttl : ℕ
  pub since : ℕ

abbrev pub as_kept : Link → ℕ → ℕ → Hit
as_kept l ttl now = record { link = l; ttl = ttl; since = now }

-- The seconds for which a link is kept that is to be kept for so many: no TTL is greater than 2,147,483,647 (RFC 2181,
-- section 8).
abbrev pub kept_ttl : ℕ → ℕ
kept_ttl ttl = min ttl greatest_ttl

-- Whether a link is younger than its TTL. One that was cached in what is now the future has age 0.
abbrev pub is_live : ℕ → Hit → Bool
is_live now h = is_young now h.ttl h.since

-- The link with this TTL on each record.
abbrev pub retimed : ℕ → Link → Link
retimed ttl (Found rs) = Found (map (with_ttl ttl) rs)
retimed ttl (Alias r) = Alias (with_ttl ttl r)
retimed ttl (NoData soa) = NoData (with_ttl ttl soa)
retimed ttl (NxDomain soa) = NxDomain (with_ttl ttl soa)

abbrev pub left_of : ℕ → Hit → ℕ
left_of now h = seconds_left now h.ttl h.since

-- The link as it is sent (RFC 1035, section 6.1.3).
abbrev pub aged : ℕ → Hit → Link
aged now h = retimed (left_of now h) h.link

-- The answer for the type under which a link is cached: an alias is a set of one CNAME record there.
abbrev pub as_set : Link → Link
as_set (Found rs) = Found rs
as_set (Alias r) = Found (r ∷ [])
as_set (NoData soa) = NoData soa
as_set (NxDomain soa) = NxDomain soa

-- The answer for another type: a CNAME record is an alias, and NODATA for type CNAME answers nothing.
abbrev pub as_alias : Link → Option Link
as_alias (Found []) = None
as_alias (Found (r ∷ rs)) = Some (Alias r)
as_alias (Alias r) = Some (Alias r)
as_alias (NoData soa) = None
as_alias (NxDomain soa) = None

abbrev pub with_link : Hit → Option Link → Option Hit
with_link h None = None
with_link h (Some l) = Some (record { link = l; ttl = h.ttl; since = h.since })

abbrev pub live_from : ℕ → Option Hit → Option Hit
live_from now o = stores.live_from (is_live now) o

abbrev pub set_from : Option Hit → Option Hit
set_from None = None
set_from (Some h) = with_link h (Some (as_set h.link))

abbrev pub alias_from : Option Hit → Option Hit
alias_from None = None
alias_from (Some h) = with_link h (as_alias h.link)

-- The link under the key, if it lives.
abbrev pub live_at : ℕ → Key → List (Key × Hit) → Option Hit
live_at now k es = stores.live_at same_key (is_live now) k es

abbrev pub set_at : ℕ → Key → List (Key × Hit) → Option Hit
set_at now k es = set_from (live_at now k es)

abbrev pub alias_at : ℕ → Key → List (Key × Hit) → Option Hit
alias_at now k es = alias_from (live_at now k es)

abbrev pub under : Key → Option Hit → Option (Key × Hit)
under k o = stores.under k o

abbrev pub or_else : Option (Key × Hit) → Option (Key × Hit) → Option (Key × Hit)
or_else first later = stores.or_else first later

-- The answer, and the key of its entry: the name's NXDOMAIN, then the type's link, then, for a type other than CNAME,
-- the alias. The first that lives answers.
abbrev pub answer : List (List ℕ) → ℕ → ℕ → List (Key × Hit) → Option (Key × Hit)
answer q t now es =
    or_else (under (error_key q) (set_at now (error_key q) es))
    (or_else (under (kind_key q t) (set_at now (kind_key q t) es))
    (cond (nat_eq t cname_type) None (under (kind_key q cname_type) (alias_at now (kind_key q cname_type) es))))

abbrev pub hit_of : Option (Key × Hit) → Option Hit
hit_of None = None
hit_of (Some a) = Some a.1

-- A question, and the names above its name of which an NXDOMAIN denies it too, the nearest first (RFC 8020, section 2).
pub record Question : Type 0 where
  pub name : List (List ℕ)
  pub kind : ℕ
  pub above : List (List (List ℕ))

-- The names above a name, up to `top`.
abbrev pub above_to : List (List ℕ) → List (List ℕ) → List (List (List ℕ))
above_to top [] = []
above_to top (l ∷ ls) = cond (is_under ls top) (ls ∷ above_to top ls) []

abbrev pub asked_to : List (List ℕ) → List (List ℕ) → ℕ → Question
asked_to top q t = record { name = q; kind = t; above = above_to top q }

-- The NXDOMAIN of the first of these names that has a live one.
abbrev pub error_above : List (List (List ℕ)) → ℕ → List (Key × Hit) → Option (Key × Hit)
error_above [] now es = None
error_above (n ∷ ns) now es = or_else (under (error_key n) (set_at now (error_key n) es)) (error_above ns now es)

-- The answer to a question: an entry of the name itself goes before an NXDOMAIN above it.
abbrev pub lent : Question → ℕ → List (Key × Hit) → Option (Key × Hit)
lent a now es = or_else (answer a.name a.kind now es) (error_above a.above now es)

abbrev pub moved : Option (Key × Hit) → List (Key × Hit) → List (Key × Hit)
moved a es = stores.moved same_key a es

-- What a name's own entries answer that is no alias: its NXDOMAIN, or else the type's link.
abbrev pub own_end : List (List ℕ) → ℕ → ℕ → List (Key × Hit) → Option (Key × Hit)
own_end q t now es = or_else (under (error_key q) (set_at now (error_key q) es)) (under (kind_key q t) (set_at now (kind_key q t) es))

-- The entries after a look-up: the one that answers is the first.
abbrev pub after_look : Question → ℕ → List (Key × Hit) → List (Key × Hit)
after_look a now es = moved (lent a now es) es

abbrev pub is_error : Link → Bool
is_error (Found rs) = false
is_error (Alias r) = false
is_error (NoData soa) = false
is_error (NxDomain soa) = true

-- A link other than an NXDOMAIN says that the name exists, so the name's NXDOMAIN goes.
abbrev pub swept : List (List ℕ) → Link → List (Key × Hit) → List (Key × Hit)
swept q l es = cond (is_error l) es (remove_entry (same_key (error_key q)) es)

-- The entries after a link: it is the first, under its key. With TTL 0 it is not cached, and the entry under its key
-- goes.
abbrev pub stored : ℕ → Key → Hit → List (Key × Hit) → List (Key × Hit)
stored cap k h es = stores.stored same_key cap k h h.ttl es

abbrev pub after_keep : ℕ → List (List ℕ) → ℕ → Hit → List (Key × Hit) → List (Key × Hit)
after_keep cap q t h es = swept q h.link (stored cap (key_for q t h.link) h es)

-- ---- the same by members

-- The entry that is new after `keep`.
abbrev pub IsKept : List (List ℕ) → ℕ → Hit → Key × Hit → Type 0
IsKept q t h e = (e ≡ (key_for q t h.link, h)) × (h.ttl ≢ 0)

-- What may be gone after `keep`: the entry of the key, the name's NXDOMAIN where another link is cached, and the entry
-- past the capacity where the key is new.
abbrev pub IsGone : ℕ → List (List ℕ) → ℕ → Hit → List (Key × Hit) → Key × Hit → Type 0
IsGone cap q t h es e = ((e.0 ≡ error_key q) × (is_error h.link ≡ false)) ⊎ MayGo same_key cap (key_for q t h.link) es e

-- How an entry answers a question: as the name's NXDOMAIN or the type's link, as an alias, or as the NXDOMAIN of a name
-- above.
abbrev pub EntryAnswers : Question → Key → Link → Link → Type 0
EntryAnswers a k l given =
    ((k ≡ error_key a.name) × (given ≡ as_set l))
    ⊎ (((k ≡ kind_key a.name a.kind) × (given ≡ as_set l))
    ⊎ (((k ≡ kind_key a.name cname_type) × (a.kind ≢ cname_type) × (as_alias l ≡ Some given))
    ⊎ ((p : List (List ℕ)) × Contains a.above p × (k ≡ error_key p) × (given ≡ as_set l))))

-- A hit is an entry that lives, with its own TTL and moment.
abbrev pub IsHeld : Question → ℕ → List (Key × Hit) → Hit → Type 0
IsHeld a now es h = (k : Key) × (e : Hit) × Contains es (k, e) × (is_live now e ≡ true) × EntryAnswers a k e.link h.link × (h.ttl ≡ e.ttl) × (h.since ≡ e.since)

-- An entry of this key lives.
abbrev pub Lives : ℕ → List (Key × Hit) → Key → Hit → Type 0
Lives now es k h = (lookup (same_key k) es ≡ Some h) × (is_live now h ≡ true)

-- A question has this answer, which is no alias, and its entry is the first from then on.
pub record IsUsed (a : Question) (now : ℕ) (before : LruCache Key Hit) (h : Hit) (after : LruCache Key Hit) : Type 0 where
  pub found : hit_of (lent a now before.entries) ≡ Some h
  pub held : IsHeld a now before.entries h
  pub ends : (r : Record) → h.link ≡ Alias r → ⊥
  pub moves : after ≡ lru_cache (moved (lent a now before.entries) before.entries) before.cap

-- No entry answers: no NXDOMAIN of the name lives, no link of the type, no CNAME that is an alias for another type, and
-- no NXDOMAIN of a name above that counts.
pub record IsMiss (a : Question) (now : ℕ) (es : List (Key × Hit)) : Type 0 where
  pub error : (h : Hit) → Lives now es (error_key a.name) h → ⊥
  pub own : (h : Hit) → Lives now es (kind_key a.name a.kind) h → ⊥
  pub alias : (h : Hit) (l : Link) → a.kind ≢ cname_type → Lives now es (kind_key a.name cname_type) h → as_alias h.link ≡ Some l → ⊥
  pub above : (p : List (List ℕ)) → Contains a.above p → (h : Hit) → Lives now es (error_key p) h → ⊥

-- The link lives under its key and answers first: no NXDOMAIN of the name lives beside another link. An alias answers
-- for a type other than CNAME, of which no link lives.
pub record ComesFirst (q : List (List ℕ)) (t now : ℕ) (es : List (Key × Hit)) (h : Hit) : Type 0 where
  pub lives : Lives now es (key_for q t h.link) h
  pub exists : is_error h.link ≡ false → (e : Hit) → Lives now es (error_key q) e → ⊥
  pub other : (r : Record) → h.link ≡ Alias r → (t ≢ cname_type) × ((e : Hit) → Lives now es (kind_key q t) e → ⊥)
