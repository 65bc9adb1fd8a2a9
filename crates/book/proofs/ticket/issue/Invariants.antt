use Rattle.std.proofs.Common.{◌≡◌, ◌+◌}
use Rattle.book.specs.Books.{first_tickets}
use Rattle.book.proofs.ticket.issue.Given as goal

abbrev pub invariant-loop-worker : goal.invariant-loop-worker
invariant-loop-worker g l = (l.all.parts + l.worker ≡ l.workers) × (l.all.amount ≡ 0) × (l.tickets.items ≡ first_tickets l.worker)
