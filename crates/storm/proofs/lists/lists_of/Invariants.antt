-- The scripts so far ask what is in the lists.
use Rattle.std.proofs.Common.{◌≡◌, ◌++◌, length, map}
use Rattle.script.specs.Orders.{order_seen}
use Rattle.storm.specs.Lists.{AsksAll}
use Rattle.storm.proofs.lists.lists_of.Given as goal

abbrev pub invariant-loop-script : goal.invariant-loop-script
invariant-loop-script l =
    (length l.lists.items ≡ length l.yielded)
    × AsksAll (map (λ s. map order_seen s.items) l.yielded) l.initial.clients (map (λ l. l.items) l.lists.items) l.clients
    × (l.initial.script-iterator.rest.items ≡ l.yielded ++ l.script-iterator.rest.items)
