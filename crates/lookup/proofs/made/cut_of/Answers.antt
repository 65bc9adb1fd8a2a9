use Rattle.lookup.proofs.Lists.{made_is_cut}
use Rattle.lookup.proofs.made.cut_of.Goals as goal

pub returns : goal.returns
returns g c = made_is_cut c.args.at c.args.servers.now c.args.glue.now c.in_ok-of_records.field-0 c.in_ok-of_records.ensures
