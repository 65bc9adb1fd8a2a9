use Rattle.dname.proofs.Split.{split_by_size}
use Rattle.dname.proofs.walk.next_label.Goals as goal

pub returns : goal.returns
returns c = split_by_size c.args.bytes.now c.split_at.result.1.now c.split_at-2.result.0.now c.split_at-2.result.1.now c.from-size.result
    c.requires c.from-size.ensures c.if-size-eq0.false c.split_at.ensures.back c.split_at-2.ensures.front c.split_at-2.ensures.back
