use Rattle.std.proofs.Common.{◌≡◌, ◌+◌, ◌≤◌, ◌++◌, map, length, vec_len, vec_capacity}
use Rattle.std.specs.VecDeque.Iter.{deque_iter_rest}
use Rattle.admission.specs.Waiting.{address_of}
use Rattle.admission.proofs.queue.put_addresses.Given as goal

abbrev pub invariant-loop-query : goal.invariant-loop-query
invariant-loop-query g l =
    (l.addresses.items ++ map address_of (deque_iter_rest l.query-iterator) ≡ l.initial.addresses.items ++ map address_of l.queries.items)
    × (vec_len l.addresses + length (deque_iter_rest l.query-iterator) ≤ vec_capacity l.addresses)
    × (vec_capacity l.addresses ≡ vec_capacity l.initial.addresses)
