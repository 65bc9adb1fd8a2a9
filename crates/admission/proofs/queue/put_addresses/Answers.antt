use Rattle.std.proofs.Common.{◌++◌, map, length, refl, ap, ◌∙◌, arith}
use Rattle.admission.specs.Waiting.{address_of}
use Rattle.admission.proofs.Waiters.{one_more, all_put}
use Rattle.admission.proofs.queue.put_addresses.Goals as goal

pub loop-query-init : goal.loop-query-init
loop-query-init g c =
    let e = c.into_iter-query-iterator.ensures.into_iter_gives.0 in
    (ap (λ xs. c.args.addresses.now.items ++ map address_of xs) e, omega (arith, c.requires, ap length e), refl)

pub push_reserved-requires : goal.push_reserved-requires
push_reserved-requires g c = omega (arith, c.loop-query.invariant.1, ap length c.in-Some.ensures.steps)

pub loop-query-preserved : goal.loop-query-preserved
loop-query-preserved g c = (
  one_more _ _ _ _ _ c.in-Some.query.now c.address_in.result c.in-Some.ensures.steps c.address_in.ensures c.push_reserved.ensures.items c.loop-query.invariant.0,
  omega (arith, c.loop-query.invariant.1, ap length c.in-Some.ensures.steps, c.push_reserved.ensures.len, c.push_reserved.ensures.capacity),
  c.push_reserved.ensures.capacity ∙ c.loop-query.invariant.2,
)

pub returns : goal.returns
returns g c = record {
  items = all_put _ _ _ c.in-None.ensures.steps.0 c.loop-query.invariant.0;
  capacity = c.loop-query.invariant.2;
}
