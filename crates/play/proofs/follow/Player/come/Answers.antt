-- The event is the one of that way.
use Rattle.std.proofs.Common.{◌∙◌, refl, ap, subst, Option}
use Rattle.std.proofs.lemmas.Result.{on_ok_weaker}
use Rattle.wire.specs.declared.via.Via.{Via}
use Rattle.network.specs.Networks.{NetworkEvent}
use Rattle.play.specs.Plays.{Happens, coming}
use Rattle.play.specs.Seen.{seen}
use Rattle.play.proofs.follow.Player.come.Goals as goal

pub returns-clause-is : goal.returns-clause-is
returns-clause-is g c =
    let p = c.args.self.now in
    on_ok_weaker c.happen.result
    (λ h. (
      refl,
      subst (λ (event : NetworkEvent). Happens event (seen p.show) (seen c.happen.new.self))
          (c.coming.ensures.is ∙ ap (λ (way : Option Via). coming p.moment c.args.number way) c.way-way.ensures) h,
    ))
    c.happen.ensures.is
