use Rattle.std.proofs.Common.{◌≡◌, Some, None, ◌∷◌, [], ◌++◌, refl, sym, ap, ◌∙◌, subst, rules}
use Rattle.std.specs.List.{position}
use Rattle.admission.specs.States.{state, IsKept}
use Rattle.admission.specs.Moves.{opened, is_entering}
use Rattle.admission.proofs.Lists.{count_left, length_left, stands_within}
use Rattle.admission.proofs.Kept.{kept_moved}
use Rattle.admission.proofs.Steps.{opened_none, opened_some}
use Rattle.admission.proofs.admission.Admission.opened.Goals as goal

pub returns-in_default : goal.returns-in_default
returns-in_default g c =
    let test = is_entering c.args.key c.args.client in
    let there : position test c.self.inside.admitted.items ≡ None = subst (λ xs. position test xs ≡ None) c.deref.ensures.value (sym c.place_of_entering.ensures ∙ c.in_default.is) in
    opened_none c.args.self.now c.args.key c.args.client c.args.moment (subst (λ s. position test s.admitted ≡ None) c.self.view_is there)

pub invariant_of-self : goal.invariant_of-self
invariant_of-self g c =
    let b = c.self.inside in
    let d = state b.limits b.admitted.items b.ready.items b.waiting.items in
    let test = is_entering c.args.key c.args.client in
    let i = c.in-Some.place in
    let q = c.remove-entering.result in
    let ys = c.remove-entering.new.self.items in
    let r = record q { opened = Some c.args.moment } in
    let there : position test b.admitted.items ≡ Some i = subst (λ xs. position test xs ≡ Some i) c.deref.ensures.value (sym c.place_of_entering.ensures ∙ c.in-Some.is) in
    let within = stands_within test b.admitted.items i there in
    let items : c.push.new.self.items ≡ ys ++ r ∷ [] = rw c.unwrap.ensures at c.push.ensures.items in (
      subst (λ xs. IsKept (state b.limits xs b.ready.items b.waiting.items)) (sym items)
          (kept_moved d c.self.invariant.0 q r ys (λ p. count_left p b.admitted.items ys i q within c.remove-entering.ensures.value c.remove-entering.ensures.items)
          (length_left b.admitted.items ys i within c.remove-entering.ensures.items) refl refl),
      search rules,
      search rules,
      search rules,
    )

pub returns : goal.returns
returns g c =
    let b = c.self.inside in
    let d = state b.limits b.admitted.items b.ready.items b.waiting.items in
    let test = is_entering c.args.key c.args.client in
    let i = c.in-Some.place in
    let q = c.remove-entering.result in
    let r = record q { opened = Some c.args.moment } in
    let there : position test b.admitted.items ≡ Some i = subst (λ xs. position test xs ≡ Some i) c.deref.ensures.value (sym c.place_of_entering.ensures ∙ c.in-Some.is) in
    let items : c.push.new.self.items ≡ c.remove-entering.new.self.items ++ r ∷ [] = rw c.unwrap.ensures at c.push.ensures.items in
    opened_some d c.args.key c.args.client c.args.moment i q c.remove-entering.new.self.items c.push.new.self.items there c.remove-entering.ensures.value c.remove-entering.ensures.items items
    ∙ ap (λ s. opened c.args.key c.args.client c.args.moment s) c.self.view_is
