use Rattle.std.proofs.Common.{◌∙◌}
use Rattle.rdata.specs.declared.rtype.TheConstants.{INTERNET}
use Rattle.wire.proofs.Writing.{on_ok, three_put}
use Rattle.wire.proofs.writer.Writer.put_type_and_ttl.Goals as goal

pub returns : goal.returns
returns g c =
    on_ok c.put_bytes.result c.put_bytes.ensures
    (λ n. n
    ∙ three_put c.args.self.now c.to_be_bytes.result c.to_be_bytes-2.result c.to_be_bytes-3.result c.args.kind INTERNET c.args.ttl c.to_be_bytes.ensures c.to_be_bytes-2.ensures c.to_be_bytes-3.ensures)
