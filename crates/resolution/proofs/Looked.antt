-- The stores after a look-up, whether it finds a link or not.
use Rattle.std.proofs.Common.{◌≡◌, ℕ, inl, inr, Option, Some, None, refl, ◌∙◌}
use Rattle.dname.specs.Labels.{Name}
use Rattle.zone.specs.Look as local
use Rattle.referral.specs.Cuts.{Cut, after_best}
use Rattle.cache.specs.Keys.{Key}
use Rattle.cache.specs.Cached.{Hit, Question, lent, hit_of, moved}
use Rattle.resolution.specs.Jobs.{Home, Stores, Taken}
use Rattle.resolution.specs.Rules.{Says, IsRemote, asked_of, Finds, Hits, Misses, Begins}
use Rattle.resolution.specs.Stops.{looked_up_by, after_look_up, LooksInPart}

-- The cache answers, or it does not.
pub hit_look : (a : Question) (now : ℕ) (old : Stores) (hit : Hit) → hit_of (lent a now old.cache) ≡ Some hit → record old { cache = moved (lent a now old.cache) old.cache } ≡ after_look_up a now old
hit_look a now old hit is = by (lent a now old.cache) is
  where
    by : (o : Option (Key × Hit)) → hit_of o ≡ Some hit → record old { cache = moved o old.cache } ≡ looked_up_by o a.name now old
    by (Some e) same = refl
    by None same = absurd (cc)

pub miss_look : (a : Question) (now : ℕ) (old : Stores) → hit_of (lent a now old.cache) ≡ None → record old { delegations = after_best a.name now old.delegations } ≡ after_look_up a now old
miss_look a now old is = by (lent a now old.cache) is
  where
    by : (o : Option (Key × Hit)) → hit_of o ≡ None → record old { delegations = after_best a.name now old.delegations } ≡ looked_up_by o a.name now old
    by (Some e) same = absurd (cc)
    by None same = refl

-- Where nothing answers, the cache stays.
pub miss_stays : (a : Question) (now : ℕ) (old : Stores) → hit_of (lent a now old.cache) ≡ None → record old { cache = moved (lent a now old.cache) old.cache } ≡ old
miss_stays a now old is = by (lent a now old.cache) is
  where
    by : (o : Option (Key × Hit)) → hit_of o ≡ None → record old { cache = moved o old.cache } ≡ old
    by (Some e) same = absurd (cc)
    by None same = refl

-- Servers are sought for remote questions alone.
misses_remote : (home : Home) (now : ℕ) (n : Name) (t : ℕ) (old : Stores) (c : Cut) (new : Stores) → Misses home now n t old c new → IsRemote home n t
misses_remote home now n t old c new h = by h.what h.says h.begins
  where
    by : (what : local.Local) → Says home n t what → Begins home n what h.best c → IsRemote home n t
    by (local.Linked l) says none = absurd none
    by (local.Cut at ns glue) says begins = inl (at, ns, glue, says)
    by local.NotHere says begins = inr says

pub finds_look : (home : Home) (now : ℕ) (n : Name) (t : ℕ) (old : Stores) (l : Taken) (new : Stores) → Finds home now n t old l new → LooksInPart home now n t old new
finds_look home now n t old l new h = elim h.is as (λ x. LooksInPart home now n t old new) [
  | inl zones ↦ inl zones.3
  | inr found ↦ hit found.0 found.1
]
  where
    hit : (e : Hit) → Hits home now n t old l e new → LooksInPart home now n t old new
    hit e x = inr (x.remote, x.stores ∙ hit_look (asked_of home n t) now old e x.found)

pub misses_look : (home : Home) (now : ℕ) (n : Name) (t : ℕ) (old : Stores) (c : Cut) (new : Stores) → Misses home now n t old c new → LooksInPart home now n t old new
misses_look home now n t old c new h = inr (misses_remote home now n t old c new h, h.stores ∙ miss_look (asked_of home n t) now old h.miss)
