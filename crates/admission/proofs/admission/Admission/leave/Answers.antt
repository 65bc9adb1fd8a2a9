use Rattle.std.proofs.Common.{◌≡◌, ◌<◌, Some, None, ◌∷◌, [], ◌++◌, length, sym, ap, ◌∙◌, subst, rules, append-nil, ◌+◌, arith}
use Rattle.std.proofs.lemmas.Bool.{leb-false}
use Rattle.std.specs.List.{count_by}
use Rattle.admission.specs.States.{state, admitted_with, held_with}
use Rattle.admission.specs.Moves.{first_of}
use Rattle.admission.proofs.Lists.{count_left, length_left}
use Rattle.admission.proofs.Kept.{kept_as, kept_left, none_called}
use Rattle.admission.proofs.admission.Admission.leave.Goals as goal

pub take_where-requires : goal.take_where-requires
take_where-requires g c =
    let b = c.self.inside in
    let d = state b.limits b.admitted.items b.ready.items b.waiting.items in
    let q = c.remove-gone.result in
    let ys = c.remove-gone.new.self.items in
    let within : c.args.place < length b.admitted.items = subst (λ s. c.args.place < length s.admitted) (sym c.self.view_is) c.requires in
    let left : c.admitted_with.result ≡ count_by (admitted_with q.key) ys = c.admitted_with.ensures ∙ ap (λ xs. count_by (admitted_with q.key) xs) c.deref.ensures.value in
    let held : c.held_with.result ≡ count_by (held_with q.key) b.ready.items = c.held_with.ensures in
    λ no.
    let few : c.admitted_with.result + c.held_with.result + 1 < b.limits.equal = leb-false b.limits.equal (c.admitted_with.result + c.held_with.result + 1) no in
    none_called d c.self.invariant.0 q ys (λ p. count_left p b.admitted.items ys c.args.place q within c.remove-gone.ensures.value c.remove-gone.ensures.items) (omega (arith, few, left, held))

pub invariant_of-self : goal.invariant_of-self
invariant_of-self g c =
    let b = c.self.inside in
    let d = state b.limits b.admitted.items b.ready.items b.waiting.items in
    let q = c.remove-gone.result in
    let ys = c.remove-gone.new.self.items in
    let within : c.args.place < length b.admitted.items = subst (λ s. c.args.place < length s.admitted) (sym c.self.view_is) c.requires in
    let first : first_of (held_with q.key) b.waiting.items ≡ Some c.in-Some.query = sym c.take_where.ensures.first ∙ c.in-Some.is in
    let items : c.push_back.new.self.items ≡ b.ready.items ++ c.in-Some.query ∷ [] = rw c.unwrap.ensures at c.push_back.ensures.items in (
      kept_as b.limits ys (sym items) (sym c.take_where.ensures.others)
          (kept_left d c.self.invariant.0 q ys (λ p. count_left p b.admitted.items ys c.args.place q within c.remove-gone.ensures.value c.remove-gone.ensures.items)
          (length_left b.admitted.items ys c.args.place within c.remove-gone.ensures.items) (Some c.in-Some.query) first),
      search rules,
      search rules,
      search rules,
    )

pub invariant_of-self-in_default : goal.invariant_of-self-in_default
invariant_of-self-in_default g c =
    let b = c.self.inside in
    let d = state b.limits b.admitted.items b.ready.items b.waiting.items in
    let q = c.remove-gone.result in
    let ys = c.remove-gone.new.self.items in
    let within : c.args.place < length b.admitted.items = subst (λ s. c.args.place < length s.admitted) (sym c.self.view_is) c.requires in
    let first : first_of (held_with q.key) b.waiting.items ≡ None = sym c.take_where.ensures.first ∙ c.in_default.is in (
      kept_as b.limits ys (append-nil b.ready.items) (sym c.take_where.ensures.others)
          (kept_left d c.self.invariant.0 q ys (λ p. count_left p b.admitted.items ys c.args.place q within c.remove-gone.ensures.value c.remove-gone.ensures.items)
          (length_left b.admitted.items ys c.args.place within c.remove-gone.ensures.items) None first),
      search rules,
      search rules,
      search rules,
    )
