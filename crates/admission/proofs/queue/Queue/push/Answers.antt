use Rattle.std.proofs.Common.{◌≡◌, ◌<◌, length, sym, ap, ◌∙◌, subst, arith, rules}
use Rattle.std.specs.VecDeque.{deque_capacity}
use Rattle.std.proofs.lemmas.List.{length-map}
use Rattle.admission.specs.Waiting.{address_of}
use Rattle.admission.proofs.Waiters.{pushed}
use Rattle.admission.proofs.queue.Queue.push.Goals as goal

pub push_reserved-requires : goal.push_reserved-requires
push_reserved-requires g c =
    let b = c.self.inside in
    let l : length b.held.items < deque_capacity b.held = subst (λ w. length w.items < w.room) (sym c.self.view_is) c.requires in
    let n : length b.addresses.items ≡ length b.held.items = ap length c.self.invariant.0 ∙ length-map b.held.items address_of in
    omega (arith, l, n, b.addresses.ok.0, c.self.invariant.1)

pub push_back_reserved-requires : goal.push_back_reserved-requires
push_back_reserved-requires g c =
    let b = c.self.inside in
    let l : length b.held.items < deque_capacity b.held = subst (λ w. length w.items < w.room) (sym c.self.view_is) c.requires in
    omega (arith, l, b.held.ok.0)

pub invariant_of-self : goal.invariant_of-self
invariant_of-self g c =
    let b = c.self.inside in (
      pushed b.addresses.items c.push_reserved.new.self.items b.held.items c.push_back_reserved.new.self.items c.args.query c.address_in.result c.address_in.ensures c.push_reserved.ensures.items c.push_back_reserved.ensures.items
          c.self.invariant.0,
      search rules,
    )
