use Rattle.std.proofs.Common.{◌∙◌, sym, arith}
use Rattle.message_grammar.specs.Messages.{served_type}
use Rattle.wire.proofs.Skipping.{usual_by}
use Rattle.wire.proofs.records.begins_usual.Goals as goal

pub returns : goal.returns
returns c is =
    usual_by c.args.bytes.now c.args.at c.served_type.result c.if-bytes-at-lt192.false (omega arith)
    (c.served_type.ensures ∙ (λ i. served_type (c.two_at.ensures i) (c.two_at-2.ensures i))) (sym c.is_some.ensures ∙ is)
