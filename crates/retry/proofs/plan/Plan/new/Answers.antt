use Rattle.std.proofs.Common.{rules, ◌≡◌, ℕ, ap, subst}
use Rattle.std.proofs.lemmas.Fn.{always_returns_same}
use Rattle.rdata.specs.declared.addr.Addr.{Addr}
use Rattle.retry.specs.Penalties.{penalty, same_addr}
use Rattle.retry.specs.Plans.{IsByPenalty}
use Rattle.retry.proofs.Orders.{from_sort, order_is}
use Rattle.retry.proofs.Steps.{looked_most}
use Rattle.retry.proofs.plan.Plan.new.Goals as goal

pub returns-clause-relation : goal.returns-clause-relation
returns-clause-relation g c =
    let level : Addr → ℕ = λ a. penalty a c.args.penalties.now.entries in
    let keys = always_returns_same _ (λ a r. r ≡ level a.0.now) _ (λ a r next called. search rules) in
    subst (λ given. IsByPenalty level given c.sort_by_key.new.self.items) c.in_ok-order.ensures.items
    (from_sort level c.in_ok-order.order.items c.sort_by_key.new.self.items (c.in_ok-sort_by_key.ensures.sorted level keys) (c.in_ok-sort_by_key.ensures.stable level keys))

pub returns-clause-value : goal.returns-clause-value
returns-clause-value g c =
    let level : Addr → ℕ = λ a. penalty a c.args.penalties.now.entries in
    ap (λ o. record { order = o; given = 0 })
    (order_is level c.args.addresses.now c.sort_by_key.new.self.items (λ a. looked_most 8 (same_addr a) c.args.penalties.now.entries c.well_formed_law.ensures.most) (returns-clause-relation g c))
