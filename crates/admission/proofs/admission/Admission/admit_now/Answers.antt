use Rattle.std.proofs.Common.{◌≡◌, ◌<◌, false, None, ◌∷◌, [], ◌++◌, sym, subst, rules}
use Rattle.admission.specs.States.{state, of_key, is_shut, address_in, IsKept}
use Rattle.admission.specs.Moves.{admitted}
use Rattle.admission.proofs.Kept.{kept_admitted}
use Rattle.admission.proofs.admission.Admission.admit_now.Goals as goal

pub invariant_of-self : goal.invariant_of-self
invariant_of-self g c =
    let b = c.self.inside in
    let d = state b.limits b.admitted.items b.ready.items b.waiting.items in
    let q = admitted c.args.key c.args.client c.args.domain None in
    let few : of_key c.args.key d < b.limits.equal = subst (λ s. of_key c.args.key s < s.limits.equal) (sym c.self.view_is) c.requires.0 in
    let open_to : is_shut (address_in c.args.client) c.args.domain c.args.was_answered d ≡ false = subst (λ s. is_shut (address_in c.args.client) c.args.domain c.args.was_answered s ≡ false) (sym c.self.view_is) c.requires.1 in
    let items : c.push.new.self.items ≡ b.admitted.items ++ q ∷ [] = rw c.unwrap.ensures at c.push.ensures.items in (
      subst (λ xs. IsKept (state b.limits xs b.ready.items b.waiting.items)) (sym items) (kept_admitted d c.self.invariant.0 q c.args.was_answered few open_to),
      search rules,
      search rules,
      search rules,
    )
