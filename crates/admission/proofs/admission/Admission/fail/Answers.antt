use Rattle.std.proofs.Common.{sym, refl, rules}
use Rattle.admission.specs.States.{state, held_with}
use Rattle.admission.specs.Moves.{without_first}
use Rattle.admission.proofs.Lists.{fewer_without, shorter_without}
use Rattle.admission.proofs.Kept.{kept_as, kept_fewer}
use Rattle.admission.proofs.admission.Admission.fail.Goals as goal

pub invariant_of-self : goal.invariant_of-self
invariant_of-self g c =
    let b = c.self.inside in
    let d = state b.limits b.admitted.items b.ready.items b.waiting.items in
    let test = held_with c.args.key in
    let ws = b.waiting.items in (
      kept_as b.limits b.admitted.items refl (sym c.take_first.ensures.others)
          (kept_fewer d c.self.invariant.0 (without_first test ws) (λ p. fewer_without test p ws) (shorter_without test ws)),
      search rules,
      search rules,
      search rules,
    )
