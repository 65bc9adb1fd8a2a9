-- The uses of a cache of links: links that are cached, and look-ups that find one.
use Rattle.std.specs.Prelude.{◌≡◌, ℕ, Option, Some, None, List, [], ◌∷◌, IsSome}
use Rattle.dname.specs.Labels.{Name}
use Rattle.cache.specs.Keys.{Key}
use Rattle.cache.specs.Cached.{Hit, Question, lent, moved, after_keep}

-- A link that was accepted as the answer to a question, as it is cached.
pub record KeptAnswer : Type 0 where
  pub name : Name
  pub kind : ℕ
  pub hit : Hit

-- The entries after these look-ups, each of which found something.
abbrev pub AreHits : ℕ → List Question → List (Key × Hit) → List (Key × Hit) → Type 0
AreHits now [] old new = new ≡ old
AreHits now (a ∷ more) old new = IsSome (lent a now old) × AreHits now more (moved (lent a now old) old) new

-- The entries after a link was cached, if one was.
abbrev pub took : ℕ → Option KeptAnswer → List (Key × Hit) → List (Key × Hit)
took cap None es = es
took cap (Some a) es = after_keep cap a.name a.kind a.hit es

-- How many links were cached.
abbrev pub is_kept : Option KeptAnswer → ℕ
is_kept None = 0
is_kept (Some a) = 1
