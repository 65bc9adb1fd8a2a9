use Rattle.std.proofs.Common.{◌<◌, length, rules}
use Rattle.rdata.proofs.StringsWire.{cut_by_size}
use Rattle.rdata.proofs.texts.next_string.Goals as goal

pub returns : goal.returns
returns c =
    let some : 0 < length c.args.bytes.now = search rules in
    cut_by_size c.args.bytes.now c.split_at.result.1.now c.split_at-2.result.0.now c.split_at-2.result.1.now c.from-size.result
    c.requires some c.from-size.ensures c.split_at.ensures.back c.split_at-2.ensures.front c.split_at-2.ensures.back
