use Rattle.std.proofs.Common.{rules, ◌<◌, length, sym, subst}
use Rattle.retry.specs.Penalties.{penalty}
use Rattle.frames.specs.Members.{AreAmong}
use Rattle.frames.proofs.Steps.{added_within, added_is, added_order}
use Rattle.frames.proofs.frame.Frame.add.Goals as goal

pub invariant_of-self : goal.invariant_of-self
invariant_of-self g c = (c.self.invariant.0, subst (AreAmong c.self.inside.plan.order) (sym c.in_err-extend_from_slice.ensures.items) c.self.invariant.1)

pub invariant_of-self-2 : goal.invariant_of-self-2
invariant_of-self-2 g c = (
  c.self.invariant.0,
  added_within (λ a. penalty a c.args.penalties.now.entries) c.self.inside.addresses.items c.deref-2.result.now c.deref-3.result.now c.in_ok-fresh.fresh.items c.extend_from_slice.new.self.items c.in_ok-plan.plan.order
      c.deref-2.ensures.value c.deref-3.ensures.value c.in_ok-plan.ensures.relation c.in_ok-extend_from_slice.ensures.items,
)

pub returns-clause-ok : goal.returns-clause-ok
returns-clause-ok g c =
    let some : 0 < length c.in_ok-fresh.fresh.items = search rules in
    added_is (λ a. penalty a c.args.penalties.now.entries) _ c.args.self.now c.deref.result.now c.args.found.now c.in_ok-fresh.fresh.items c.deref-2.result.now c.deref-3.result.now
    c.extend_from_slice.new.self.items c.in_ok-plan.plan c.self.view_is c.deref.ensures.value c.in_ok-fresh.ensures some c.deref-2.ensures.value c.in_ok-plan.ensures.value c.deref-3.ensures.value c.in_ok-extend_from_slice.ensures.items

pub returns-clause-order : goal.returns-clause-order
returns-clause-order g c = λ some.
    added_order (λ a. penalty a c.args.penalties.now.entries) _ c.args.self.now c.deref.result.now c.args.found.now c.in_ok-fresh.fresh.items c.deref-2.result.now c.in_ok-plan.plan.order
    c.self.view_is c.deref.ensures.value c.in_ok-fresh.ensures c.deref-2.ensures.value c.in_ok-plan.ensures.relation
