-- What was found without asking, at the name and the type that were sought; and jobs after a search is over.
use Rattle.std.proofs.Common.{◌≡◌, ℕ, ◌<◌, inl, inr, Some, ◌∷◌, sym, ap, ◌∙◌, subst}
use Rattle.dname.specs.Labels.{Name}
use Rattle.referral.specs.Cuts.{Cut}
use Rattle.zone.specs.Links.{Link}
use Rattle.frames.specs.Frames.{Failed, marked, next_name}
use Rattle.frames.proofs.Places.{name_shallow}
use Rattle.resolution.specs.Jobs.{Home, Stores, Taken, Search, Job}
use Rattle.resolution.specs.Rules.{Finds, Misses, UsesServerAddress, turned}
use Rattle.lookup.specs.Found.{IsFound}
use Rattle.lookup.specs.declared.lookup.Found.{Found}
use Rattle.lookup.specs.declared.lookup.Found.TheVariants as found
use Rattle.iterate.specs.Moves.{with_search}

module _ {A : Type 0} (home : Home) (now : ℕ) (n m : Name) (t u : ℕ) (old : Stores) (f : Found A) (new : Stores) (named : n ≡ m) (typed : t ≡ u) (h : IsFound home now n t old f new) where
  pub found_at : IsFound home now m u old f new
  found_at = subst (λ (x : Name). IsFound home now x u old f new) named (subst (λ (x : ℕ). IsFound home now n x old f new) typed h)

  pub finds_at : (l : Taken) → f ≡ found.Known l → Finds home now m u old l new
  finds_at l is = subst (λ (x : Found A). IsFound home now m u old x new) is found_at

  pub misses_at : (c : Cut) → f ≡ found.Start c → Misses home now m u old c new
  misses_at c is = subst (λ (x : Found A). IsFound home now m u old x new) is found_at

-- What is found is the name's.
pub found_name : (home : Home) (now : ℕ) (n : Name) (t : ℕ) (old : Stores) (l : Taken) (new : Stores) → Finds home now n t old l new → l.name ≡ n
found_name home now n t old l new h = elim h.is as (λ x. l.name ≡ n) [
  | inl w ↦ ap (λ (k : Taken). k.name) w.2
  | inr w ↦ ap (λ (k : Taken). k.name) (w.1).link
]

-- A name whose turn it is may be looked up one nesting deeper.
pub turn_shallow : (failed : Failed) (s after : Search) (n : Name) → after ≡ turned failed s → Some n ≡ next_name failed s.frame → (after.frame).nesting < 3
turn_shallow failed s after n is turn = subst (λ (x : Search). (x.frame).nesting < 3) (sym is) (name_shallow failed s.frame n (sym turn))

-- Back in the search around one that is given up.
pub up_job : (j mid marks new : Job) (before around : Search) (n : Name) (d : ℕ) → j ≡ with_search mid around → marks ≡ record mid { failed = marked mid.failed n d } → new ≡ with_search marks around
    → n ≡ before.name → d ≡ (before.frame).nesting → new ≡ record (with_search j before) { searches = around ∷ mid.searches; failed = marked j.failed before.name (before.frame).nesting }
up_job j mid marks new before around n d popped mark push named nested =
    let back = sym popped in
    push ∙ (λ i. with_search (mark i) around) ∙ (λ i. record (back i) { searches = around ∷ mid.searches; failed = marked (back i).failed (named i) (nested i) })

-- What is heard of a name, of the search as it was.
pub heard_at : (stores : Stores) (n m : Name) (l : Link) (s before : Search) (failed : Failed) (after : Search) (marks : Failed) → n ≡ m → s ≡ before
    → UsesServerAddress stores n l s failed after marks → UsesServerAddress stores m l before failed after marks
heard_at stores n m l s before failed after marks named is h =
    subst (λ (x : Name). UsesServerAddress stores x l before failed after marks) named (subst (λ (x : Search). UsesServerAddress stores n l x failed after marks) is h)
