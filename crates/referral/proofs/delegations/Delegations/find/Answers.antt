use Rattle.std.proofs.Common.{ap, sym, ◌∙◌}
use Rattle.std.specs.Prelude.{option_map}
use Rattle.referral.specs.Cuts.{known_of}
use Rattle.referral.proofs.Steps.{found_here}
use Rattle.referral.proofs.delegations.Delegations.find.Goals as goal

pub returns-in-Some : goal.returns-in-Some
returns-in-Some g c =
    found_here c.args.at.now c.loop-servers.at c.args.now c.args.self.now.entries (known_of c.loop-servers.at c.in-Some.servers) c.well_formed_law.ensures c.loop-servers.invariant
    (ap (option_map (known_of c.loop-servers.at)) (sym c.in-Some.is) ∙ c.in_ok-servers.ensures)
