use Rattle.std.proofs.Common.{◌∙◌}
use Rattle.wire.proofs.Writing.{on_ok, five_put}
use Rattle.wire.proofs.writer.Writer.put_numbers.Goals as goal

pub returns : goal.returns
returns g c =
    on_ok c.put_bytes.result c.put_bytes.ensures
    (λ n. n
    ∙ five_put c.args.self.now c.to_be_bytes.result c.to_be_bytes-2.result c.to_be_bytes-3.result c.to_be_bytes-4.result c.to_be_bytes-5.result c.args.serial c.args.refresh c.args.retry
    c.args.expire c.args.minimum c.to_be_bytes.ensures c.to_be_bytes-2.ensures c.to_be_bytes-3.ensures c.to_be_bytes-4.ensures c.to_be_bytes-5.ensures)
