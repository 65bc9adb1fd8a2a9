use Rattle.std.proofs.Common.{refl}
use Rattle.simnet.proofs.Begun.{is_fresh}
use Rattle.simnet.proofs.sim.Sim.new.Goals as goal

pub returns : goal.returns
returns g c = record {
  resolver = c.in_ok-resolver.ensures;
  fresh = record { world = refl; resolver = is_fresh c.args.world c.args.settings c.in_ok-resolver.resolver c.in_ok-resolver.ensures; sends = c.new.ensures.items };
}
