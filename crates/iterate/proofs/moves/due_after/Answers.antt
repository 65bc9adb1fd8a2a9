use Rattle.std.proofs.Common.{refl}
use Rattle.resolution.specs.Rules.{takes, asks}
use Rattle.iterate.proofs.moves.due_after.Goals as goal

pub returns-in-Known : goal.returns-in-Known
returns-in-Known g c home now before h = takes c.in-Known.link refl (rw c.in-Known.is at h) refl refl

pub returns-in_ok-begun-in-Start : goal.returns-in_ok-begun-in-Start
returns-in_ok-begun-in-Start g c home now before h = asks c.in-Start.cut refl (rw c.in-Start.is at h) refl c.in_ok-begun-in-Start.ensures
