use Rattle.std.proofs.Common.{rules}
use Rattle.dname.proofs.Under.{relation_of}
use Rattle.dname.proofs.name.Name.is_at_or_under.Goals as goal

pub returns-clause-relation : goal.returns-clause-relation
returns-clause-relation g c = relation_of c.args.self.now c.args.other.now c.has_end.result (search rules)
