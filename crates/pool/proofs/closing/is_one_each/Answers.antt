use Rattle.std.proofs.Common.{rules, below_more, sym, ◌∙◌}
use Rattle.std.proofs.lemmas.Bool.{false≢true}
use Rattle.pool.proofs.closing.is_one_each.Goals as goal

pub returns-then-not-has_ticket : goal.returns-then-not-has_ticket
returns-then-not-has_ticket g c = (λ h. absurd (false≢true h), λ t. absurd (false≢true (sym (search rules) ∙ c.has_ticket.ensures.1 (t.each c.loop-worker.worker (search rules)))))

pub loop-worker-preserved : goal.loop-worker-preserved
loop-worker-preserved g c = below_more _ _ c.loop-worker.invariant (c.has_ticket.ensures.0 (search rules))
