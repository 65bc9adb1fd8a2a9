use Rattle.std.proofs.Common.{◌≡◌, ◌++◌, map}
use Rattle.script.specs.Orders.{order_seen}
use Rattle.storm.proofs.Listing.{Listed}
use Rattle.storm.proofs.lists.list_of.Given as goal

abbrev pub invariant-loop-order : goal.invariant-loop-order
invariant-loop-order l = Listed (map order_seen l.yielded) l.initial.clients l.list.items l.moment l.clients × (l.initial.order-iterator.rest.items ≡ l.yielded ++ l.order-iterator.rest.items)
