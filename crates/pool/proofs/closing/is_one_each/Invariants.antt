use Rattle.std.proofs.Common.{◌≡◌, ℕ, ◌<◌, get_or, Any}
use Rattle.book.specs.Books.{ticket_view}
use Rattle.pool.proofs.closing.is_one_each.Given as goal

abbrev pub invariant-loop-worker : goal.invariant-loop-worker
invariant-loop-worker g l = (w : ℕ) → w < l.worker → Any (λ p. p.ticket ≡ ticket_view w (get_or l.counts w 0)) l.kept
