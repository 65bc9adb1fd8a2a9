use Rattle.rdata.proofs.Copies.{copied_more}
use Rattle.referral.proofs.lists.address_copies.Goals as goal

pub loop-address-preserved : goal.loop-address-preserved
loop-address-preserved g c =
    copied_more c.args.addresses.now c.loop-address.items.items c.push.new.self.items c.loop-address.address-index c.in_ok-clone.field-0 c.address-item.result
    c.loop-address-test.true c.loop-address.invariant c.in_ok-push.ensures.items c.in_ok-clone.ensures.cases c.address-item.is
