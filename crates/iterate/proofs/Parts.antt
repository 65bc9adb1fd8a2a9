-- Part of a rule, where memory ran out on the way.
use Rattle.std.proofs.Common.{◌≡◌, ℕ, inl, inr, Some, None, refl, subst}
use Rattle.dname.specs.Labels.{Name}
use Rattle.zone.specs.Zones.{a_type}
use Rattle.retry.specs.Plans.{upcoming}
use Rattle.frames.specs.Frames.{next_name}
use Rattle.resolution.specs.Jobs.{Home, Stores, Search, Job, MayLookUp, Seek, Go, point}
use Rattle.resolution.specs.Stops.{LooksInPart, IsPart, untouched, looked, passed}
use Rattle.iterate.specs.Moves.{Move, IsMove, with_search, ArePassedInPart}

-- A look-up of the same name and type.
pub part_at : (home : Home) (now : ℕ) (n m : Name) (t u : ℕ) (old new : Stores) → n ≡ m → t ≡ u → LooksInPart home now n t old new → LooksInPart home now m u old new
part_at home now n m t u old new named typed h = subst (λ (x : Name). LooksInPart home now x u old new) named (subst (λ (x : ℕ). LooksInPart home now n x old new) typed h)

pub seek_part : (home : Home) (now : ℕ) (j : Job) (old new : Stores) → LooksInPart home now j.name j.kind old new → IsPart home now (point Seek j old) new
seek_part home now j old new (inl same) = untouched same
seek_part home now j old new (inr (remote, is)) = looked j.name j.kind (inl (refl, refl, refl)) remote is

pub turn_part : (home : Home) (now : ℕ) (j : Job) (s : Search) (n : Name) (old new : Stores) → upcoming (s.frame).plan ≡ None → next_name j.failed s.frame ≡ Some n → MayLookUp j
    → LooksInPart home now n a_type old new → IsPart home now (point Go (with_search j s) old) new
turn_part home now j s n old new up turn few (inl same) = untouched same
turn_part home now j s n old new up turn few (inr (remote, is)) =
    looked n a_type (inr (refl, refl, (s, j.searches, record { searches = refl; asked_all = up; turn = turn; few = few }))) remote is

pub passed_part : (home : Home) (now : ℕ) (j : Job) (s : Search) (old new : Stores) → ArePassedInPart now s old new → IsPart home now (point Go (with_search j s) old) new
passed_part home now j s old new h = passed h.count s h.after j.searches new.failures refl refl h.passes h.stores

-- The same of a search and of stores that did not change.
pub move_of : (home : Home) (now : ℕ) (j : Job) (before after : Search) (old mid : Stores) (move : Move) (job : Job) (new : Stores) → after ≡ before → mid ≡ old
    → IsMove home now (point Go (with_search j after) mid) move job new → IsMove home now (point Go (with_search j before) old) move job new
move_of home now j before after old mid move job new search stores h =
    subst (λ (s : Search). IsMove home now (point Go (with_search j s) old) move job new) search (subst (λ (x : Stores). IsMove home now (point Go (with_search j after) x) move job new) stores h)

pub part_of : (home : Home) (now : ℕ) (j : Job) (before after : Search) (old mid new : Stores) → after ≡ before → mid ≡ old → IsPart home now (point Go (with_search j after) mid) new
    → IsPart home now (point Go (with_search j before) old) new
part_of home now j before after old mid new search stores h =
    subst (λ (s : Search). IsPart home now (point Go (with_search j s) old) new) search (subst (λ (x : Stores). IsPart home now (point Go (with_search j after) x) new) stores h)
