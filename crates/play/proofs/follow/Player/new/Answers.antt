-- A network before its first event.
use Rattle.std.proofs.Common.{subst}
use Rattle.engine.specs.declared.settings.Settings.{Settings}
use Rattle.simnet.specs.Beginnings.{IsNetworkOf}
use Rattle.play.proofs.follow.Player.new.Goals as goal

pub returns-in-Ok : goal.returns-in-Ok
returns-in-Ok g c = record {
  network = c.in-Ok.network;
  made = subst (λ (set : Settings). IsNetworkOf c.args.world set c.in-Ok.network) c.settings.ensures c.in-Ok.ensures;
  is = c.of.ensures;
}
