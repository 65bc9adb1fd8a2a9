-- Stores after part of a look-up.
use Rattle.std.proofs.Common.{◌≡◌, ℕ, inl, inr, Result, Ok, Err, OnErr, subst, ◌∙◌}
use Rattle.dname.specs.Labels.{Name}
use Rattle.cache.specs.Cached.{Question, asked_to}
use Rattle.resolution.specs.Jobs.{Home, Stores}
use Rattle.resolution.specs.Rules.{IsRemote, asked_of}
use Rattle.resolution.specs.Stops.{after_look_up, LooksInPart}
use Rattle.resolution.proofs.Looked.{hit_look, miss_look, finds_look, misses_look}
use Rattle.lookup.specs.Uses.{IsAskedInPart}
use Rattle.lookup.specs.Found.{IsFound, IsKept}
use Rattle.lookup.specs.declared.lookup.Found.{Found}
use Rattle.lookup.specs.declared.lookup.Found.TheVariants as found
use Rattle.lookup.specs.declared.lookup.Kept.{Kept}
use Rattle.lookup.specs.declared.lookup.Kept.TheVariants as kept

-- What the cache and the delegations gave is what a look-up leaves.
pub kept_part : {A : Type 0} (top : Name) (now : ℕ) (n : Name) (t : ℕ) (old : Stores) (k : Kept A) (new : Stores) → IsKept top now n t old k new → IsAskedInPart (asked_to top n t) now old new
kept_part top now n t old (kept.Hit l) new h = inr (h.stores ∙ hit_look (asked_to top n t) now old h.hit h.found)
kept_part top now n t old (kept.Best best) new h = inr (h.stores ∙ miss_look (asked_to top n t) now old h.miss)

-- What was asked is what the name and the type may be answered with.
pub asked_part : (home : Home) (now : ℕ) (n : Name) (t : ℕ) (a : Question) (old new : Stores) → a ≡ asked_of home n t → IsRemote home n t → IsAskedInPart a now old new → LooksInPart home now n t old new
asked_part home now n t a old new is remote (inl same) = inl same
asked_part home now n t a old new is remote (inr looked) = inr (remote, subst (λ (x : Question). new ≡ after_look_up x now old) is looked)

pub found_part : {A : Type 0} (home : Home) (now : ℕ) (n : Name) (t : ℕ) (old : Stores) (f : Found A) (new : Stores) → IsFound home now n t old f new → LooksInPart home now n t old new
found_part home now n t old (found.Known l) new h = finds_look home now n t old l new h
found_part home now n t old (found.Start c) new h = misses_look home now n t old c new h

pub on_err : {T E P : Type 0} (r : Result T E) → P → OnErr r P
on_err (Ok x) p = tt
on_err (Err e) p = p
