use Rattle.std.proofs.Common.{◌≡◌, ◌<◌, ◌≤◌, false, inl, ◌∷◌, [], ◌++◌, length, refl, sym, ap, ◌∙◌, subst, rules}
use Rattle.admission.specs.States.{state, of_key, is_shut, address_in}
use Rattle.admission.specs.Moves.{held}
use Rattle.admission.proofs.Kept.{kept_as, kept_waiting}
use Rattle.admission.proofs.Steps.{waits_longer}
use Rattle.admission.proofs.admission.Admission.admit.Goals as goal

pub returns-then-is_shut : goal.returns-then-is_shut
returns-then-is_shut g c = (inl (sym c.is_shut.ensures ∙ c.if-is_shut.true), refl, refl)

pub admit_now-requires : goal.admit_now-requires
admit_now-requires g c =
    let l = ap (λ s. s.limits) c.self.view_is in (
      subst (λ l. of_key c.args.key c.args.self.now < l.equal) l (subst (λ n. n < c.self.inside.limits.equal) c.of_key.ensures c.if-of_key-self.true),
      sym c.is_shut.ensures ∙ c.if-is_shut.false,
    )

pub returns-then-of_key-self : goal.returns-then-of_key-self
returns-then-of_key-self g c =
    let l = ap (λ s. s.limits) c.self.view_is in (
      sym c.is_shut.ensures ∙ c.if-is_shut.false,
      subst (λ l. of_key c.args.key c.args.self.now < l.equal) l (subst (λ n. n < c.self.inside.limits.equal) c.of_key.ensures c.if-of_key-self.true),
      refl,
      c.admit_now.ensures,
    )

pub invariant_of-self : goal.invariant_of-self
invariant_of-self g c =
    let b = c.self.inside in
    let d = state b.limits b.admitted.items b.ready.items b.waiting.items in
    let q = held c.args.key c.args.client c.args.domain c.args.moment c.args.payload in
    let many : b.limits.equal ≤ of_key c.args.key d = subst (λ s. b.limits.equal ≤ of_key c.args.key s) (sym c.self.view_is) (subst (λ n. b.limits.equal ≤ n) c.of_key.ensures c.if-of_key-self.false) in
    let open_to : is_shut (address_in c.args.client) c.args.domain c.args.was_answered d ≡ false = subst (λ s. is_shut (address_in c.args.client) c.args.domain c.args.was_answered s ≡ false) (sym c.self.view_is) (sym c.is_shut.ensures ∙ c.if-is_shut.false) in
    let room : length b.waiting.items < b.limits.waiting = search rules in
    let items : c.push.new.self.items ≡ b.waiting.items ++ q ∷ [] = c.push.ensures.items in (
      kept_as b.limits b.admitted.items refl (sym items) (kept_waiting d c.self.invariant.0 q c.args.was_answered many open_to room),
      search rules,
      search rules,
      search rules,
    )

pub returns : goal.returns
returns g c =
    let b = c.self.inside in
    let d = state b.limits b.admitted.items b.ready.items b.waiting.items in
    let q = held c.args.key c.args.client c.args.domain c.args.moment c.args.payload in
    let l = ap (λ s. s.limits) c.self.view_is in
    let room : length b.waiting.items < b.limits.waiting = search rules in
    let items : c.push.new.self.items ≡ b.waiting.items ++ q ∷ [] = c.push.ensures.items in (
      sym c.is_shut.ensures ∙ c.if-is_shut.false,
      subst (λ l. l.equal ≤ of_key c.args.key c.args.self.now) l (subst (λ n. b.limits.equal ≤ n) c.of_key.ensures c.if-of_key-self.false),
      subst (λ s. length s.waiting < s.limits.waiting) c.self.view_is room,
      waits_longer d c.args.self.now q c.push.new.self.items c.self.view_is items,
    )
