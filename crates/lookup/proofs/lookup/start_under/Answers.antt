use Rattle.lookup.proofs.Kept.{begins_deeper, begins_here}
use Rattle.lookup.proofs.lookup.start_under.Goals as goal

pub returns-in-Some : goal.returns-in-Some
returns-in-Some g c = λ home n. begins_deeper home n c.args.at c.args.servers.now c.args.glue.now c.args.best c.in-Some.cut c.in-Some.ensures

pub returns-in_ok-cut_of-in-None : goal.returns-in_ok-cut_of-in-None
returns-in_ok-cut_of-in-None g c =
    λ home n. begins_here home n c.args.at c.args.servers.now c.args.glue.now c.args.best c.in_ok-cut_of-in-None.field-0 c.in-None.ensures c.in_ok-cut_of-in-None.ensures
