-- The nearest cut of the name so far is that of the name that was given.
use Rattle.std.proofs.Common.{◌≡◌, length}
use Rattle.referral.specs.Cuts.{nearest}
use Rattle.referral.proofs.delegations.Delegations.find.Given as goal

abbrev pub invariant-loop-servers : goal.invariant-loop-servers
invariant-loop-servers g l = nearest l.at l.now l.self.entries ≡ nearest l.fn.at l.now l.self.entries

abbrev pub decreases-loop-servers : goal.decreases-loop-servers
decreases-loop-servers g l = length l.at
