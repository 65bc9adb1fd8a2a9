use Rattle.std.proofs.Common.{◌≡◌, None, ◌∷◌, [], ◌++◌, sym, subst, rules}
use Rattle.admission.specs.States.{state, IsKept}
use Rattle.admission.specs.Moves.{admitted}
use Rattle.admission.proofs.Kept.{kept_next}
use Rattle.admission.proofs.admission.Admission.next.Goals as goal

pub invariant_of-self-2 : goal.invariant_of-self-2
invariant_of-self-2 g c =
    let b = c.self.inside in
    let d = state b.limits b.admitted.items b.ready.items b.waiting.items in
    let q = c.in_ok-query.query in
    let r = c.pop_front.new.self.items in
    let head : b.ready.items ≡ q ∷ r = c.in_ok-query.ensures.items in
    let items : c.push.new.self.items ≡ b.admitted.items ++ admitted q.key q.client q.domain None ∷ [] = rw c.unwrap.ensures at c.push.ensures.items in (
      subst (λ xs. IsKept (state b.limits xs r b.waiting.items)) (sym items) (kept_next d c.self.invariant.0 q r head),
      search rules,
      search rules,
      search rules,
    )
