-- Each entry stands under the owner of its cut, and no two under one.
use Rattle.std.proofs.Common.{◌≡◌, ℕ, inl, inr, List, Some, refl, sym, ap, ◌∙◌, subst}
use Rattle.lru.specs.LruCache.{lru_cache, IsValid}
use Rattle.dname.specs.Labels.{same_name, IsAtOrUnder}
use Rattle.lru_laws.proofs.Stored.{moved_valid, stored_valid}
use Rattle.referral.specs.Cuts.{Cut, Known, AreNamed, nearest, cut_of, after_best, after_keep, IsBest}
use Rattle.referral.proofs.Exact.{same_name_exact}
use Rattle.referral.proofs.Steps.{cut_is_best}
use Rattle.referral.proofs.Members.{looked_members, kept_members}

pub best_named : (q : List (List ℕ)) (now : ℕ) (es : List (List (List ℕ) × Known)) → AreNamed es → AreNamed (after_best q now es)
best_named q now es named e m = named e ((looked_members q now es).0 e m)

pub keep_named : (cap : ℕ) (k : Known) (es : List (List (List ℕ) × Known)) → AreNamed es → AreNamed (after_keep cap k es)
keep_named cap k es named e m = elim (kept_members cap k es e m) [
  | inl old ↦ named e old
  | inr new ↦ subst (λ (y : List (List ℕ) × Known). (y.1.cut).owner ≡ y.0) (sym new.0) refl
]

pub found_over : (q : List (List ℕ)) (now : ℕ) (es : List (List (List ℕ) × Known)) (c : Cut) → AreNamed es → cut_of (nearest q now es) ≡ Some c → IsAtOrUnder q c.owner
found_over q now es c named is = by (subst (IsBest q now es) is (cut_is_best q now es))
  where
    by : IsBest q now es (Some c) → IsAtOrUnder q c.owner
    by (n, k, deepest, cut) = subst (IsAtOrUnder q) (sym (named (n, k) deepest.there) ∙ ap (λ (x : Cut). x.owner) cut) deepest.over

pub best_valid : (cap : ℕ) (q : List (List ℕ)) (now : ℕ) (es : List (List (List ℕ) × Known)) → IsValid same_name (lru_cache es cap) → IsValid same_name (lru_cache (after_best q now es) cap)
best_valid cap q now es h = moved_valid same_name same_name_exact cap (nearest q now es) es h

pub keep_valid : (cap : ℕ) (k : Known) (es : List (List (List ℕ) × Known)) → IsValid same_name (lru_cache es cap) → IsValid same_name (lru_cache (after_keep cap k es) cap)
keep_valid cap k es h = stored_valid same_name same_name_exact cap (k.cut).owner k k.ttl es h
