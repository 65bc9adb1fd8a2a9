use Rattle.std.proofs.Common.{refl, sym}
use Rattle.admission.specs.States.{held_with}
use Rattle.admission.proofs.Lists.{none_goes}
use Rattle.admission.proofs.queue.Queue.take_where.Goals as goal

pub returns : goal.returns
returns g c =
    let e = c.requires c.if-waits.false in
    record { first = sym e; others = sym (none_goes (held_with c.args.key) c.args.self.now.items e); room = refl }
