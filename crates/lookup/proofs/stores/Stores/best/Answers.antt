use Rattle.std.proofs.Common.{subst}
use Rattle.referral.specs.Cuts.{IsBest}
use Rattle.resolution.specs.Jobs.{Stores}
use Rattle.lookup.proofs.stores.Stores.best.Goals as goal

pub returns-clause-relation : goal.returns-clause-relation
returns-clause-relation g c = subst (λ (s : Stores). IsBest c.args.name.now c.args.now s.delegations c.in_ok-best.field-0) c.self.view_is c.in_ok-best.ensures.relation
