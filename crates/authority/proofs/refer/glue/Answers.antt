use Rattle.authority.proofs.Picks.{glue_more}
use Rattle.authority.proofs.refer.glue.Goals as goal

pub loop-server-preserved : goal.loop-server-preserved
loop-server-preserved g c =
    glue_more c.args.zone.now.records c.args.servers.now c.loop-server.set c.put_server.new.set c.loop-server.server-index c.server-item.result c.loop-server-test.true c.server-item.is c.loop-server.invariant c.in_ok-put_server.ensures
