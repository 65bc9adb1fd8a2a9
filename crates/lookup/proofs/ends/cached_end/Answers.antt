use Rattle.rdata.specs.Types.{type_number}
use Rattle.lookup.proofs.FoundEnds.{hit_given}
use Rattle.lookup.proofs.ends.cached_end.Goals as goal

pub returns-in-Ok-Some : goal.returns-in-Ok-Some
returns-in-Ok-Some g c =
    hit_given c.args.now c.args.name.now (type_number c.args.kind) c.args.stores.now c.in-Ok-Some.hit c.look_end.new.self
    (rw c.in-Ok-Some.field-0-is at c.in-Ok-Some.ensures.ok) c.cached.result c.cached.ensures
