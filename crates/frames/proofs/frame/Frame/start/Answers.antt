use Rattle.std.proofs.Common.{arith, ◌≤◌, length}
use Rattle.retry.specs.Penalties.{penalty}
use Rattle.frames.proofs.Steps.{order_within, order_of, opened_is}
use Rattle.frames.proofs.frame.Frame.start.Goals as goal

pub invariant_of-result : goal.invariant_of-result
invariant_of-result g c =
    let least : 0 ≤ length c.in_ok-names.names = omega arith in
    (least, order_within (λ a. penalty a c.args.penalties.now.entries) c.deref-2.result.now c.in_ok-addresses.addresses.items c.in_ok-plan.plan.order c.deref-2.ensures.value c.in_ok-plan.ensures.relation)

pub returns-clause-value : goal.returns-clause-value
returns-clause-value g c =
    opened_is (λ a. penalty a c.args.penalties.now.entries) c.args.nesting _ c.args.cut.now c.as_slice-servers.result.now c.in_ok-addresses.addresses.items c.deref.result.now c.deref-2.result.now
    c.in_ok-names.names c.as_slice.result.now c.first_names-first.result.now c.in_ok-zone.zone c.in_ok-plan.plan c.cut.view_is c.as_slice-servers.ensures c.in_ok-addresses.ensures c.as_slice.ensures
    c.first_names-first.ensures c.deref.ensures.value c.in_ok-names.ensures c.deref-2.ensures.value c.in_ok-plan.ensures.value c.in_ok-zone.ensures.cases

pub returns-clause-order : goal.returns-clause-order
returns-clause-order g c =
    order_of (λ a. penalty a c.args.penalties.now.entries) c.deref-2.result.now c.in_ok-addresses.addresses.items c.in_ok-plan.plan.order c.deref-2.ensures.value c.in_ok-plan.ensures.relation
