-- The laws of members that the functions of this crate state: which entries a look-up and a `keep` leave.
use Rattle.std.specs.Prelude.{◌≡◌, ◌≢◌, ℕ, List, Some, Contains}
use Rattle.lru.specs.LruCache.{lru_cache, IsValid}
use Rattle.dname.specs.Labels.{same_name, IsAtOrUnder}
use Rattle.lru_laws.specs.Orders.{KeepsOnly, LosesOnly, HasSame}
use Rattle.referral.specs.Cuts.{Cut, Known, AreNamed, nearest, cut_of, after_best, after_keep, IsBest, IsKept, IsGone}

-- A look-up adds no entry and removes none.
abbrev pub BestKeepsMembers : Type 0
BestKeepsMembers = (q : List (List ℕ)) (now : ℕ) (es : List (List (List ℕ) × Known)) → HasSame es (after_best q now es)

-- The entry that is new after a `keep` is that of its cut.
abbrev pub KeepBringsOne : Type 0
KeepBringsOne = (cap : ℕ) (k : Known) (es : List (List (List ℕ) × Known)) → KeepsOnly es (IsKept k) (after_keep cap k es)

-- That entry is there, unless its TTL is 0.
abbrev pub KeptIsThere : Type 0
KeptIsThere = (cap : ℕ) (k : Known) (es : List (List (List ℕ) × Known)) → k.ttl ≢ 0 → Contains (after_keep cap k es) ((k.cut).owner, k)

-- The entries that a `keep` removes: the old one of the name, and the one past the capacity.
abbrev pub KeepLosesFew : Type 0
KeepLosesFew = (cap : ℕ) (k : Known) (es : List (List (List ℕ) × Known)) → LosesOnly es (IsGone cap k es) (after_keep cap k es)

-- The cut that is found is the deepest live one over the name.
abbrev pub FoundIsBest : Type 0
FoundIsBest = (q : List (List ℕ)) (now : ℕ) (es : List (List (List ℕ) × Known)) → IsBest q now es (cut_of (nearest q now es))

-- Each entry stands under the owner of its cut, after each call.
abbrev pub BestStaysNamed : Type 0
BestStaysNamed = (q : List (List ℕ)) (now : ℕ) (es : List (List (List ℕ) × Known)) → AreNamed es → AreNamed (after_best q now es)

abbrev pub KeepStaysNamed : Type 0
KeepStaysNamed = (cap : ℕ) (k : Known) (es : List (List (List ℕ) × Known)) → AreNamed es → AreNamed (after_keep cap k es)

-- So the cut that is found is over the name of the question.
abbrev pub FoundIsOver : Type 0
FoundIsOver = (q : List (List ℕ)) (now : ℕ) (es : List (List (List ℕ) × Known)) (c : Cut) → AreNamed es → cut_of (nearest q now es) ≡ Some c → IsAtOrUnder q c.owner

-- No two entries have one name, and there are no more of them than the capacity, after each call.
abbrev pub BestStaysValid : Type 0
BestStaysValid = (cap : ℕ) (q : List (List ℕ)) (now : ℕ) (es : List (List (List ℕ) × Known)) → IsValid same_name (lru_cache es cap) → IsValid same_name (lru_cache (after_best q now es) cap)

abbrev pub KeepStaysValid : Type 0
KeepStaysValid = (cap : ℕ) (k : Known) (es : List (List (List ℕ) × Known)) → IsValid same_name (lru_cache es cap) → IsValid same_name (lru_cache (after_keep cap k es) cap)
