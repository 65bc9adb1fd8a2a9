use Rattle.std.proofs.Common.{◌≡◌, map, Ok}
use Rattle.text_lines.specs.Texts.{said_from}
use Rattle.script.specs.Orders.{order_seen, said, orders_of}
use Rattle.script.proofs.script.read_orders.Given as goal

abbrev pub invariant-loop-line : goal.invariant-loop-line
invariant-loop-line g l = said_from (said l.scope) Ok l.number (map order_seen l.orders.items) l.line-iterator ≡ orders_of l.scope l.fn.text
