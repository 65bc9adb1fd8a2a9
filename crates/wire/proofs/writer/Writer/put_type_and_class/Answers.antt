use Rattle.std.proofs.Common.{◌∙◌}
use Rattle.wire.proofs.Writing.{on_ok, two_put}
use Rattle.wire.proofs.writer.Writer.put_type_and_class.Goals as goal

pub returns : goal.returns
returns g c =
    on_ok c.put_bytes.result c.put_bytes.ensures
    (λ n. n ∙ two_put c.args.self.now c.to_be_bytes.result c.to_be_bytes-2.result c.args.kind c.args.class c.to_be_bytes.ensures c.to_be_bytes-2.ensures)
