use Rattle.std.proofs.Common.{rules}
use Rattle.referral.specs.Cuts.{as_kept}
use Rattle.referral.proofs.Steps.{keep_there, keep_only, keep_gone}
use Rattle.referral.proofs.delegations.Delegations.keep.Goals as goal

pub returns-clause-ok : goal.returns-clause-ok
returns-clause-ok g c = search rules

pub returns-clause-there : goal.returns-clause-there
returns-clause-there g c = keep_there c.args.self.now c.store.new.self (as_kept c.args.cut c.args.ttl c.args.now) (returns-clause-ok g c)

pub returns-clause-only : goal.returns-clause-only
returns-clause-only g c = keep_only c.args.self.now c.store.new.self (as_kept c.args.cut c.args.ttl c.args.now) (returns-clause-ok g c)

pub returns-clause-gone : goal.returns-clause-gone
returns-clause-gone g c = keep_gone c.args.self.now c.store.new.self (as_kept c.args.cut c.args.ttl c.args.now) (returns-clause-ok g c)
