-- The laws of members that the functions of this crate state: which entries a look-up and a `keep` leave.
use Rattle.std.specs.Prelude.{◌≡◌, ◌≢◌, ℕ, List, Some, Contains}
use Rattle.lru_laws.specs.Orders.{KeepsOnly, LosesOnly, HasSame}
use Rattle.cache.specs.Keys.{Key, key_for}
use Rattle.cache.specs.Cached.{Hit, hit_of, Question, lent, after_look, after_keep, IsKept, IsGone, IsHeld}

-- A look-up adds no entry and removes none.
abbrev pub LookKeepsMembers : Type 0
LookKeepsMembers = (a : Question) (now : ℕ) (es : List (Key × Hit)) → HasSame es (after_look a now es)

-- The entry that is new after a `keep` is that of its link.
abbrev pub KeepBringsOne : Type 0
KeepBringsOne = (cap : ℕ) (q : List (List ℕ)) (t : ℕ) (h : Hit) (es : List (Key × Hit)) → KeepsOnly es (IsKept q t h) (after_keep cap q t h es)

-- That entry is there, unless its TTL is 0.
abbrev pub KeptIsThere : Type 0
KeptIsThere = (cap : ℕ) (q : List (List ℕ)) (t : ℕ) (h : Hit) (es : List (Key × Hit)) → h.ttl ≢ 0 → Contains (after_keep cap q t h es) (key_for q t h.link, h)

-- The entries that a `keep` removes: the old one of the key, the name's NXDOMAIN, and the one past the capacity.
abbrev pub KeepLosesFew : Type 0
KeepLosesFew = (cap : ℕ) (q : List (List ℕ)) (t : ℕ) (h : Hit) (es : List (Key × Hit)) → LosesOnly es (IsGone cap q t h es) (after_keep cap q t h es)

-- The answer is an entry.
abbrev pub GivenIsHeld : Type 0
GivenIsHeld = (a : Question) (now : ℕ) (es : List (Key × Hit)) (h : Hit) → hit_of (lent a now es) ≡ Some h → IsHeld a now es h
