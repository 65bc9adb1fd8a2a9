use Rattle.lookup.proofs.Owners.{set_owner}
use Rattle.lookup.proofs.taken.into_owner.Goals as goal

pub returns-in-Found : goal.returns-in-Found
returns-in-Found g c = set_owner c.set.inside.owner c.set.inside.ttl c.set.inside.values _ c.args.link c.len.ensures.some c.set.view_is c.in-Found.is
