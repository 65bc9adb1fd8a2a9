use Rattle.referral.proofs.Making.{address_more}
use Rattle.referral.proofs.made.addresses.Goals as goal

pub loop-given-preserved : goal.loop-given-preserved
loop-given-preserved g c =
    address_more c.args.glue.now c.loop-given.given-index c.given-item.result c.loop-given.addresses c.put_address.new.addresses
    c.loop-given-test.true c.given-item.is c.loop-given.invariant c.in_ok-put_address.ensures
