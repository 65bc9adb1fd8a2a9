-- Which entries a look-up and a keep leave, over plain lists.
use Rattle.std.proofs.Common.{◌≢◌, ℕ, List, Contains}
use Rattle.lru_laws.specs.Orders.{KeepsOnly, LosesOnly, HasSame}
use Rattle.referral.specs.Cuts.{Known, nearest, after_best, after_keep, IsKept, IsGone}
use Rattle.referral.proofs.Steps.{moved_same, after_there, after_only, after_gone}

pub looked_members : (q : List (List ℕ)) (now : ℕ) (es : List (List (List ℕ) × Known)) → HasSame es (after_best q now es)
looked_members q now es = moved_same (nearest q now es) es

pub kept_members : (cap : ℕ) (k : Known) (es : List (List (List ℕ) × Known)) → KeepsOnly es (IsKept k) (after_keep cap k es)
kept_members cap k es = after_only cap k es

pub kept_is_there : (cap : ℕ) (k : Known) (es : List (List (List ℕ) × Known)) → k.ttl ≢ 0 → Contains (after_keep cap k es) ((k.cut).owner, k)
kept_is_there cap k es = after_there cap k es

pub lost_members : (cap : ℕ) (k : Known) (es : List (List (List ℕ) × Known)) → LosesOnly es (IsGone cap k es) (after_keep cap k es)
lost_members cap k es = after_gone cap k es
