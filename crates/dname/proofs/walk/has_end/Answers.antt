use Rattle.dname.proofs.Under.{under_end_size, no_end}
use Rattle.dname.specs.Wire.{labels_of}
use Rattle.std.proofs.Common.{ap, length}
use Rattle.dname.proofs.walk.has_end.Goals as goal

pub returns-then-ends_with : goal.returns-then-ends_with
returns-then-ends_with c =
    under_end_size c.args.bytes.now c.tail.result.now c.args.other.now c.ends_with.result c.tail.ensures.end c.ends_with.ensures.value c.if-ends_with.true
    c.tail.ensures.wire c.requires.other c.tail.ensures.short (c.tail.ensures.under (labels_of c.args.other.now) (ap length c.requires.other.bytes))

pub returns-else-ends_with : goal.returns-else-ends_with
returns-else-ends_with c =
    no_end c.args.bytes.now c.args.other.now c.ends_with.result c.requires.wire c.requires.other c.ends_with.ensures.value c.if-ends_with.false
