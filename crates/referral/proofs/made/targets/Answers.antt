use Rattle.referral.proofs.Making.{target_more}
use Rattle.referral.proofs.made.targets.Goals as goal

pub loop-server-preserved : goal.loop-server-preserved
loop-server-preserved g c =
    target_more c.args.servers.now c.loop-server.server-index c.server-item.result c.loop-server.names c.put_target.new.names
    c.loop-server-test.true c.server-item.is c.loop-server.invariant c.in_ok-put_target.ensures
