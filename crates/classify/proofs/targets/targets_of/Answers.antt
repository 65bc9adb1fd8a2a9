use Rattle.classify.proofs.Servers.{targets_whole, sorted_names}
use Rattle.classify.proofs.targets.targets_of.Goals as goal

pub returns-clause-members : goal.returns-clause-members
returns-clause-members g c = λ n.
    sorted_names n c.args.servers.now c.loop-server.targets.items c.sort_unstable.new.self.items
    (targets_whole c.args.servers.now c.loop-server.server-index c.loop-server.targets.items c.loop-server-test.false c.loop-server.invariant) c.sort_unstable.ensures.permutation
