use Rattle.std.proofs.Common.{ap, ◌∙◌}
use Rattle.frames.specs.Frames.{fresh_addresses, after_add}
use Rattle.resolution.specs.Jobs.{Stores, level_of}
use Rattle.lookup.proofs.stores.Stores.add.Goals as goal

pub returns-clause-ok : goal.returns-clause-ok
returns-clause-ok g c =
    c.in_ok-add.ensures.ok ∙ ap (λ (s : Stores). after_add (level_of s) c.args.frame.now (fresh_addresses c.args.frame.now c.args.found.now)) c.self.view_is
