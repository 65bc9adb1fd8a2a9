-- The laws of look-ups that the functions of this crate state: what the answer is, and when there is none.
use Rattle.std.specs.Prelude.{◌≡◌, ◌≢◌, ◌↔◌, ℕ, true, Some, None, List, Contains}
use Rattle.dname.specs.Labels.{IsAtOrUnder}
use Rattle.lru.specs.LruCache.{lru_cache, IsValid}
use Rattle.rdata.specs.Records.{Record}
use Rattle.zone.specs.Links.{Alias}
use Rattle.zone.specs.Zones.{IsBeneath, cname_type}
use Rattle.cache.specs.Keys.{Key, same_key, kind_key, key_for}
use Rattle.cache.specs.Cached.{Hit, is_live, hit_of, Question, above_to, lent, after_look, after_keep, Lives, IsMiss, ComesFirst}

-- The names above that are tried are those over the name, other than it, at or under `top`.
abbrev pub AboveIsBetween : Type 0
AboveIsBetween = (top q p : List (List ℕ)) → Contains (above_to top q) p ↔ (IsBeneath q p × IsAtOrUnder p top)

-- There is no answer exactly where no entry answers.
abbrev pub NothingIsMissed : Type 0
NothingIsMissed = (a : Question) (now : ℕ) (es : List (Key × Hit)) → hit_of (lent a now es) ≡ None → IsMiss a now es

abbrev pub MissGivesNothing : Type 0
MissGivesNothing = (a : Question) (now : ℕ) (es : List (Key × Hit)) → IsMiss a now es → hit_of (lent a now es) ≡ None

-- The answer lives.
abbrev pub GivenLives : Type 0
GivenLives = (a : Question) (now : ℕ) (es : List (Key × Hit)) (h : Hit) → hit_of (lent a now es) ≡ Some h → is_live now h ≡ true

-- The link that lives and answers first is the answer.
abbrev pub FirstIsGiven : Type 0
FirstIsGiven = (a : Question) (now : ℕ) (es : List (Key × Hit)) (h : Hit) → ComesFirst a.name a.kind now es h → lent a now es ≡ Some (key_for a.name a.kind h.link, h)

-- A link that was just cached is the answer while it lives. An alias is so where another type than CNAME is asked for
-- and no other link of that type is cached.
abbrev pub KeptIsGiven : Type 0
KeptIsGiven = (cap : ℕ) (a : Question) (now : ℕ) (h : Hit) (es : List (Key × Hit)) → IsValid same_key (lru_cache es cap) → h.ttl ≢ 0 → is_live now h ≡ true
    → ((r : Record) → h.link ≡ Alias r → (a.kind ≢ cname_type) × ((e : Hit) → Lives now es (kind_key a.name a.kind) e → ⊥)) → hit_of (lent a now (after_keep cap a.name a.kind h es)) ≡ Some h

-- No two entries have one key, and there are no more of them than the capacity, after each call.
abbrev pub LookStaysValid : Type 0
LookStaysValid = (cap : ℕ) (a : Question) (now : ℕ) (es : List (Key × Hit)) → IsValid same_key (lru_cache es cap) → IsValid same_key (lru_cache (after_look a now es) cap)

abbrev pub KeepStaysValid : Type 0
KeepStaysValid = (cap : ℕ) (q : List (List ℕ)) (t : ℕ) (h : Hit) (es : List (Key × Hit)) → IsValid same_key (lru_cache es cap) → IsValid same_key (lru_cache (after_keep cap q t h es) cap)
