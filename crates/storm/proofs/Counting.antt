-- Counting along a history.
use Rattle.std.proofs.Common.{◌≡◌, ℕ, ◌+◌, arith, Bool, true, false, Option, Some, None, List, [], ◌∷◌, refl, sym, ap, ◌∙◌, subst}
use Rattle.world_truth.specs.Worlds.{World}
use Rattle.network.specs.Networks.{NetworkAction, Reply, WasSent, WasAsked, MoreDue}
use Rattle.simnet.specs.declared.action.SimAction.{SimAction}
use Rattle.simnet.specs.Views.{due_listed, listed, sim_action_view}
use Rattle.score.specs.Clients.{Queries}
use Rattle.score.specs.declared.count.Count.{Count}
use Rattle.storm.specs.Counts.{Counts, CountsOut, CountsStep, CountsAll, none_yet, replies_in, replies_of, replies_shown}
use Rattle.storm.specs.Runs.{Entry, out_of}

module _ (W : World) (clients : Queries) where
  -- So far the entries came to this count: whatever the rest comes to, all of them come to.
  pub record CountsTo {A : Type 0} (all left : List (Entry A)) (count : Count) : Type 0 where
    pub goes : (end : Count) → CountsAll W clients left count end → CountsAll W clients all none_yet end

  pub counts_none : {A : Type 0} (all : List (Entry A)) (count : Count) → count ≡ none_yet → CountsTo all all count
  counts_none all count is = record { goes = λ end h. subst (λ (c : Count). CountsAll W clients all c end) is h }

  pub counts_more : {A : Type 0} (all left rest : List (Entry A)) (e : Entry A) (count next : Count) → left ≡ e ∷ rest → CountsTo all left count
      → CountsStep W clients (out_of e.out) count next → CountsTo all rest next
  counts_more {A} all left rest e count next is h one =
      record { goes = λ end more. h.goes end (subst (λ (l : List (Entry A)). CountsAll W clients l count end) (sym is) (next, one, more)) }

  pub counts_end : {A : Type 0} (all left : List (Entry A)) (count : Count) → left ≡ [] → CountsTo all left count → CountsAll W clients all none_yet count
  counts_end {A} all left count is h = h.goes count (subst (λ (l : List (Entry A)). CountsAll W clients l count count) (sym is) refl)

  -- ---- one step

  pub due_adds : (due : Bool) (count : Count) → CountsOut W clients (due_listed due) count count
  due_adds true count = (count, refl, refl)
  due_adds false count = refl

  pub action_counts : {A : Type 0} (first : Option (SimAction A)) (action : SimAction A) (due : Bool) (out : List NetworkAction) (old new : Count) → listed first due ≡ out
      → first ≡ Some action → Counts W clients (sim_action_view action) old new → CountsOut W clients out old new
  action_counts {A} first action due out old new view is h =
      subst (λ (l : List NetworkAction). CountsOut W clients l old new) (ap (λ (f : Option (SimAction A)). listed f due) (sym is) ∙ view) (new, h, due_adds due new)

-- ---- how many replies there are

-- So far there were n replies, and the rest has the others.
pub record RepliesTo {A : Type 0} (all left : List (Entry A)) (n : ℕ) : Type 0 where
  pub sum : n + replies_shown left ≡ replies_shown all

pub replies_none : {A : Type 0} (all : List (Entry A)) (n : ℕ) → n ≡ 0 → RepliesTo all all n
replies_none all n is = record { sum = omega (arith, is) }

pub replies_more : {A : Type 0} (all left rest : List (Entry A)) (e : Entry A) (n next : ℕ) → left ≡ e ∷ rest → RepliesTo all left n
    → next ≡ n + replies_of (out_of e.out) → RepliesTo all rest next
replies_more {A} all left rest e n next is h one =
    let here : replies_shown left ≡ replies_of (out_of e.out) + replies_shown rest = ap (λ (l : List (Entry A)). replies_shown l) is in
    let before = h.sum in
    record { sum = omega (arith, here, before, one) }

pub replies_end : {A : Type 0} (all left : List (Entry A)) (n : ℕ) → left ≡ [] → RepliesTo all left n → n ≡ replies_shown all
replies_end {A} all left n is h =
    let none : replies_shown left ≡ 0 = ap (λ (l : List (Entry A)). replies_shown l) is in
    let before = h.sum in
    omega (arith, none, before)

due_none : (due : Bool) → 0 ≡ replies_in (due_listed due)
due_none true = refl
due_none false = refl

due_behind : (a : NetworkAction) (due : Bool) → replies_in (a ∷ []) ≡ replies_in (a ∷ due_listed due)
due_behind (Reply client way bytes c) due = ap (λ (n : ℕ). n + 1) (due_none due)
due_behind (WasSent k) due = due_none due
due_behind (WasAsked k) due = due_none due
due_behind MoreDue due = due_none due

pub no_action : {A : Type 0} (first : Option (SimAction A)) (due : Bool) (out : List NetworkAction) → listed first due ≡ out → first ≡ None → 0 ≡ replies_in out
no_action first due out view is = due_none due ∙ ap replies_in (ap (λ f. listed f due) (sym is) ∙ view)

pub one_action : {A : Type 0} (first : Option (SimAction A)) (action : SimAction A) (due : Bool) (out : List NetworkAction) (n : ℕ) → listed first due ≡ out
    → first ≡ Some action → n ≡ replies_in (sim_action_view action ∷ []) → n ≡ replies_in out
one_action first action due out n view is h = h ∙ due_behind (sim_action_view action) due ∙ ap replies_in (ap (λ f. listed f due) (sym is) ∙ view)
