use Rattle.std.proofs.Common.{◌∙◌, ap, true}
use Rattle.asks.specs.Indexes.{lists, is_due}
use Rattle.asks.proofs.Due.{at_both, same_due, no_due, inserted, moved}
use Rattle.asks.proofs.indexes.change_due.Goals as goal

pub returns-then-had-due-clause-ok : goal.returns-then-had-due-clause-ok
returns-then-had-due-clause-ok g c =
    moved c.args.due c.args.query c.in-Some.had.due (lists c.args.by_due.now.keys) (lists c.insert.new.self.keys) (lists c.drop_due.new.by_due.keys) (λ d. c.requires d ∙ ap (is_due d) c.in-Some.is) c.if-had-due.true
    (λ d q. at_both c.args.due c.args.query d q true _ _ (c.in_ok-insert.ensures.updates.0 (d, q)))
    c.drop_due.ensures

pub returns-else-had-due-clause-ok : goal.returns-else-had-due-clause-ok
returns-else-had-due-clause-ok g c =
    inserted c.args.due c.args.query c.args.had (lists c.args.by_due.now.keys) (lists c.insert.new.self.keys) c.requires (same_due c.args.due c.args.had c.in-Some.had c.in-Some.is c.if-had-due.false)
    (λ d q. at_both c.args.due c.args.query d q true _ _ (c.in_ok-insert.ensures.updates.0 (d, q)))

pub returns-in_default-clause-ok : goal.returns-in_default-clause-ok
returns-in_default-clause-ok g c =
    inserted c.args.due c.args.query c.args.had (lists c.args.by_due.now.keys) (lists c.insert.new.self.keys) c.requires (no_due c.args.due c.args.had c.in_default.is)
    (λ d q. at_both c.args.due c.args.query d q true _ _ (c.in_ok-insert.ensures.updates.0 (d, q)))
