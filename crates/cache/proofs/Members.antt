-- Which entries a look-up and a keep leave, over plain lists.
use Rattle.std.proofs.Common.{◌≡◌, ◌≢◌, ℕ, List, Contains, Option, Some, None, subst}
use Rattle.lru_laws.specs.Orders.{KeepsOnly, LosesOnly, HasSame}
use Rattle.lru_laws.proofs.Stored.{moved_same}
use Rattle.cache.specs.Keys.{Key, same_key, key_for}
use Rattle.cache.specs.Cached.{Hit, hit_of, Question, lent, after_look, after_keep, IsKept, IsGone, IsHeld}
use Rattle.cache.specs.Laws.{same_key_exact}
use Rattle.cache.proofs.Steps.{AreHeld, answers_held, after_there, after_only, after_gone}

pub looked_members : (a : Question) (now : ℕ) (es : List (Key × Hit)) → HasSame es (after_look a now es)
looked_members a now es = moved_same same_key same_key_exact (lent a now es) es

pub kept_members : (cap : ℕ) (q : List (List ℕ)) (t : ℕ) (h : Hit) (es : List (Key × Hit)) → KeepsOnly es (IsKept q t h) (after_keep cap q t h es)
kept_members cap q t h es = after_only cap q t h es

pub kept_is_there : (cap : ℕ) (q : List (List ℕ)) (t : ℕ) (h : Hit) (es : List (Key × Hit)) → h.ttl ≢ 0 → Contains (after_keep cap q t h es) (key_for q t h.link, h)
kept_is_there cap q t h es = after_there cap q t h es

pub lost_members : (cap : ℕ) (q : List (List ℕ)) (t : ℕ) (h : Hit) (es : List (Key × Hit)) → LosesOnly es (IsGone cap q t h es) (after_keep cap q t h es)
lost_members cap q t h es = after_gone cap q t h es

-- what is given is there and lives
pub given_held : (a : Question) (now : ℕ) (es : List (Key × Hit)) (h : Hit) → hit_of (lent a now es) ≡ Some h → IsHeld a now es h
given_held a now es h is = by (lent a now es) (answers_held a now es) is
  where
    by : (x : Option (Key × Hit)) → AreHeld a now es x → hit_of x ≡ Some h → IsHeld a now es h
    by None held e = cc
    by (Some x) held e = let same : x.1 ≡ h = cc in subst (IsHeld a now es) same held
