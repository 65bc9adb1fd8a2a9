use Rattle.std.proofs.Common.{◌∙◌}
use Rattle.message_grammar.specs.Messages.{served_type}
use Rattle.wire.proofs.Skipping.{body_short, body_cut, body_whole}
use Rattle.wire.proofs.records.body_at.Goals as goal

pub returns-then-bytes-at-lt10-clause-is : goal.returns-then-bytes-at-lt10-clause-is
returns-then-bytes-at-lt10-clause-is c = body_short c.args.bytes.now c.args.at c.requires c.if-bytes-at-lt10.true

pub returns-then-bytes-at-clause-is : goal.returns-then-bytes-at-clause-is
returns-then-bytes-at-clause-is c =
    body_cut c.args.bytes.now c.args.at c.from-size.result c.if-bytes-at-lt10.false (c.from-size.ensures ∙ c.two_at.ensures) c.if-bytes-at.true

pub returns-clause-is : goal.returns-clause-is
returns-clause-is c =
    body_whole c.args.bytes.now c.args.at c.from-size.result c.served_type.result c.if-bytes-at-lt10.false (c.from-size.ensures ∙ c.two_at.ensures) c.if-bytes-at.false
    (c.served_type.ensures ∙ (λ i. served_type (c.two_at-2.ensures i) (c.two_at-3.ensures i)))
