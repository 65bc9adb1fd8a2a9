use Rattle.std.proofs.Common.{rules, ◌∙◌, ap}
use Rattle.message_grammar.specs.Pieces.{after}
use Rattle.message_grammar.specs.Messages.{Header, Counts, header_pieces}
use Rattle.wire.proofs.Writing.{on_ok, header_put}
use Rattle.wire.proofs.writer.Writer.put_header.Goals as goal

pub returns-clause-written : goal.returns-clause-written
returns-clause-written g c =
    let h : Header = record {
      id = c.header.inside.id;
      qr = c.header.inside.qr;
      opcode = c.header.inside.opcode;
      aa = c.header.inside.aa;
      tc = c.header.inside.tc;
      rd = c.header.inside.rd;
      ra = c.header.inside.ra;
      z = c.header.inside.z;
      rcode = c.header.inside.rcode;
    } in
    let counts : Counts = record {
      questions = c.args.counts.questions;
      answer = c.args.counts.answer;
      authority = c.args.counts.authority;
      additional = c.args.counts.additional;
    } in
    on_ok c.put_bytes.result c.put_bytes.ensures
    (λ n. n
    ∙ (header_put c.args.self.now h c.args.counts.questions c.args.counts.answer c.args.counts.authority c.args.counts.additional _ _ c.to_be_bytes.result c.low_bytes.result
    c.low_bytes-2.result c.low_bytes-3.result c.low_bytes-4.result c.to_be_bytes.ensures (search rules) (search rules) c.low_bytes.ensures c.low_bytes-2.ensures c.low_bytes-3.ensures c.low_bytes-4.ensures
    ∙ ap (λ (x : Header). after c.args.self.now (header_pieces x counts)) c.header.view_is))
