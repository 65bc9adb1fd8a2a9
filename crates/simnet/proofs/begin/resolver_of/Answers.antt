use Rattle.std.proofs.Common.{◌∙◌, ap}
use Rattle.worlds.specs.Kept.{addresses}
use Rattle.simnet.proofs.Begun.{resolver_is}
use Rattle.simnet.proofs.begin.resolver_of.Goals as goal

pub returns-in-Ok : goal.returns-in-Ok
returns-in-Ok g c =
    resolver_is c.args.world.now c.in_ok-held.field-0.items c.in_ok-from_slice.field-0.items c.args.settings c.in-Ok.resolver c.in-Ok.ensures c.in_ok-held.ensures.are
    (ap addresses c.in_ok-from_slice.ensures.items ∙ c.hints.ensures)
