use Rattle.std.proofs.Common.{ap, ◌∙◌}
use Rattle.frames.specs.Frames.{opened}
use Rattle.resolution.specs.Jobs.{Stores, level_of}
use Rattle.lookup.proofs.stores.Stores.open.Goals as goal

pub returns : goal.returns
returns g c = c.in_ok-start.ensures.value ∙ ap (λ (s : Stores). opened (level_of s) c.args.nesting c.args.cut.now) c.self.view_is
