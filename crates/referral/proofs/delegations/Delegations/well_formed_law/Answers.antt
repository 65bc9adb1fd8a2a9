use Rattle.referral.proofs.Shown.{seen_named, seen_valid}
use Rattle.referral.proofs.delegations.Delegations.well_formed_law.Goals as goal

pub returns-clause-named : goal.returns-clause-named
returns-clause-named g c = seen_named c.args.self.now c.self.inside.entries c.self.view_is

pub returns-clause-valid : goal.returns-clause-valid
returns-clause-valid g c = seen_valid c.args.self.now c.self.inside.entries c.self.view_is c.len.ensures.valid
