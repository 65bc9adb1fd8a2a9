-- What comes out of the step is printed.
use Rattle.std.proofs.lemmas.Result.{on_ok_weaker}
use Rattle.simnet.specs.Views.{sim_event_view}
use Rattle.play.specs.Seen.{seen}
use Rattle.play.proofs.Happening.{happened}
use Rattle.play.proofs.show.Show.happen.Goals as goal

pub returns-in-Ok-clause-is : goal.returns-in-Ok-clause-is
returns-in-Ok-clause-is g c =
    on_ok_weaker c.show.result
    (λ acts. happened (sim_event_view c.args.event) (seen c.args.self.now) (seen c.show.new.self) c.step.new.self c.in-Ok.actions c.requires c.in-Ok.ensures.ok acts)
    c.show.ensures.is
