use Rattle.rdata.specs.Kept.{datum}
use Rattle.rdata.proofs.Found.{put_new, put_old, found_put, found_kept}
use Rattle.rdata.proofs.sets.put_once.Goals as goal

pub returns-in_ok-push-clause-values : goal.returns-in_ok-push-clause-values
returns-in_ok-push-clause-values g c =
    put_new c.deref.result.now c.args.values.now.items c.push.new.self.items c.in_ok-clone.field-0 (datum c.args.added.now) c.in_ok-is_new.field-0 c.deref.ensures.value
    c.in_ok-is_new.ensures.new c.if-branch.true c.in_ok-clone.ensures.cases c.in_ok-push.ensures.items

pub returns-in_ok-push-clause-found : goal.returns-in_ok-push-clause-found
returns-in_ok-push-clause-found g c =
    found_put c.is_new.new.later c.deref.result.now c.args.values.now.items c.push.new.self.items c.in_ok-clone.field-0 (datum c.args.added.now) c.in_ok-is_new.field-0 c.deref.ensures.value
    c.in_ok-is_new.ensures.found c.if-branch.true c.in_ok-clone.ensures.cases c.in_ok-push.ensures.items

pub returns-else-branch-clause-values : goal.returns-else-branch-clause-values
returns-else-branch-clause-values g c =
    put_old c.deref.result.now c.args.values.now.items (datum c.args.added.now) c.in_ok-is_new.field-0 c.deref.ensures.value c.in_ok-is_new.ensures.new c.if-branch.false

pub returns-else-branch-clause-found : goal.returns-else-branch-clause-found
returns-else-branch-clause-found g c =
    found_kept c.is_new.new.later c.deref.result.now c.args.values.now.items (datum c.args.added.now) c.in_ok-is_new.field-0 c.deref.ensures.value c.in_ok-is_new.ensures.found c.if-branch.false
