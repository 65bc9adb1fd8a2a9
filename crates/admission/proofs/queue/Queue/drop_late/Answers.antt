use Rattle.std.proofs.Common.{arith}
use Rattle.admission.proofs.Waiters.{from_none}
use Rattle.admission.proofs.queue.Queue.drop_late.Goals as goal

pub put_addresses-requires : goal.put_addresses-requires
put_addresses-requires g c =
    let b = c.self.inside in
    omega (arith, c.drop_late-dropped.ensures.count, b.held.ok.0, b.held.small.1, c.self.invariant.1, c.clear.ensures.len, c.clear.ensures.capacity)

pub invariant_of-self : goal.invariant_of-self
invariant_of-self g c = (
  from_none _ _ _ c.clear.ensures.items c.put_addresses.ensures.items,
  omega (arith, c.self.invariant.1, c.drop_late-dropped.ensures.capacity, c.clear.ensures.capacity, c.put_addresses.ensures.capacity),
)
