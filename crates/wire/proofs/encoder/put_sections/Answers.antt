use Rattle.std.specs.Prelude.{flat_map}
use Rattle.std.specs.Option.{option_copied}
use Rattle.rdata.specs.Rows.{in_set}
use Rattle.message_grammar.specs.Messages.{record_pieces}
use Rattle.wire.proofs.Writing.{on_ok}
use Rattle.wire.proofs.Putting.{four_puts}
use Rattle.wire.proofs.encoder.put_sections.Goals as goal

pub returns : goal.returns
returns g c =
    on_ok c.put_records-3.result c.put_records-3.ensures
    (four_puts c.args.limit (flat_map record_pieces c.args.first.now) (flat_map record_pieces (in_set (option_copied c.args.second))) (flat_map record_pieces c.args.authority.now)
    (flat_map record_pieces c.args.additional.now) c.args.writer.now c.put_records.new.self c.put_lent.new.writer c.put_records-2.new.self c.put_records-3.new.self
    c.in_ok-put_records.ensures c.in_ok-put_lent.ensures c.in_ok-put_records-2.ensures)
