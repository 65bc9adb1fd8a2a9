use Rattle.rdata.proofs.Copies.{copied_more}
use Rattle.referral.proofs.lists.copies.Goals as goal

pub loop-name-preserved : goal.loop-name-preserved
loop-name-preserved g c =
    copied_more c.args.names.now c.loop-name.items.items c.push.new.self.items c.loop-name.name-index c.in_ok-clone.field-0 c.name-item.result
    c.loop-name-test.true c.loop-name.invariant c.in_ok-push.ensures.items c.in_ok-clone.ensures.cases c.name-item.is
