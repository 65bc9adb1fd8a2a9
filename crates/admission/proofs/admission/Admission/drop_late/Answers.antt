use Rattle.std.proofs.Common.{sym, refl, rules}
use Rattle.std.specs.List.{filter}
use Rattle.admission.specs.States.{state}
use Rattle.admission.specs.Moves.{may_wait}
use Rattle.admission.proofs.Lists.{fewer_filtered, shorter_filtered}
use Rattle.admission.proofs.Kept.{kept_as, kept_fewer}
use Rattle.admission.proofs.admission.Admission.drop_late.Goals as goal

pub invariant_of-self : goal.invariant_of-self
invariant_of-self g c =
    let b = c.self.inside in
    let d = state b.limits b.admitted.items b.ready.items b.waiting.items in
    let test = may_wait c.args.now in
    let ws = b.waiting.items in (
      kept_as b.limits b.admitted.items refl (sym c.drop_late.ensures.items)
          (kept_fewer d c.self.invariant.0 (filter test ws) (λ p. fewer_filtered test p ws) (shorter_filtered test ws)),
      search rules,
      search rules,
      search rules,
    )
