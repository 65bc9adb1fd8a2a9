-- What comes out of the step is printed, or the bytes are dropped.
use Rattle.std.proofs.lemmas.Result.{on_ok_weaker}
use Rattle.simnet.specs.Views.{sim_event_view}
use Rattle.play.specs.Seen.{seen}
use Rattle.play.proofs.Happening.{heeded}
use Rattle.play.proofs.show.Show.ask.Goals as goal

pub returns-in-Ok : goal.returns-in-Ok
returns-in-Ok g c =
    on_ok_weaker c.heed.result
    (λ heeds. heeded (sim_event_view c.args.event) (seen c.args.self.now) (seen c.heed.new.self) c.step.new.self c.in-Ok.actions c.args.client c.requires c.in-Ok.ensures.ok heeds)
    c.heed.ensures
