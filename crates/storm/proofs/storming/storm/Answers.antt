use Rattle.std.proofs.Common.{map, ap, Vec, Global}
use Rattle.script.specs.Orders.{order_seen}
use Rattle.script.specs.declared.order.Order.{Order}
use Rattle.storm.specs.declared.query.StormQuery.{StormQuery}
use Rattle.storm.proofs.Right.{storm_of}
use Rattle.storm.proofs.storming.storm.Goals as goal

pub returns : goal.returns
returns g c = record {
  storm = storm_of c.args.start (map (λ (s : Vec (Order Global) Global). map order_seen s.items) c.args.scripts.items) _ _ _ _ c.in_ok-totals.totals c.new-clients.ensures
      (ap (map (λ (l : Vec (StormQuery Global) Global). l.items)) c.deref.ensures.value) (rw c.in-Some.is at c.in_ok-queries.ensures.asks) c.in_ok-totals.ensures;
  none = tt;
}
