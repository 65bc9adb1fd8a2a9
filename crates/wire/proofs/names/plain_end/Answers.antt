use Rattle.std.proofs.Common.{◌∙◌, sym, arith}
use Rattle.wire.proofs.Plainly.{plain_begins, plain_goes_on, plain_ends}
use Rattle.wire.proofs.names.plain_end.Goals as goal

pub labels-init : goal.labels-init
labels-init c = plain_begins c.args.bytes.now c.args.at

pub returns-then-size-eq0 : goal.returns-then-size-eq0
returns-then-size-eq0 c =
    let byte = c.in_ok-get.ensures.lookup.3 in
    plain_ends c.args.bytes.now c.args.at c.labels.place c.labels.room c.labels.invariant (sym (c.from-size.ensures ∙ byte.1 0) ∙ c.if-size-eq0.true) byte.0

pub labels-preserved : goal.labels-preserved
labels-preserved c =
    let byte = c.in_ok-get.ensures.lookup.3 in
    let some = c.if-size-eq0.false in
    plain_goes_on c.args.bytes.now c.args.at c.labels.place c.labels.room c.from-size.result c.labels.invariant (c.from-size.ensures ∙ byte.1 0) byte.0 (omega arith) c.if-size-ge64.false c.if-room-size.false c.if-bytes-place.false
