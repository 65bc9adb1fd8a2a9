-- A refusal has no records.
use Rattle.std.proofs.Common.{◌∙◌, ap, subst, option_copied, false, ℕ}
use Rattle.std.proofs.lemmas.Result.{IfOk-weaker}
use Rattle.message_grammar.specs.Messages.{Message, IsMessage, encoding, folded_message}
use Rattle.message_grammar.specs.Compression.{IsCompressed}
use Rattle.wire.specs.Drafts.{asked_alone}
use Rattle.front.specs.Replies.{bare}
use Rattle.front.proofs.Short.{bare_fits}
use Rattle.front.proofs.reply.refusal_bytes.Goals as goal

pub short_bytes-requires-clause-fits : goal.short_bytes-requires-clause-fits
short_bytes-requires-clause-fits g c =
    bare_fits c.args.start (option_copied c.args.echo) c.rcode.result c.empty_draft.result c.empty_draft.ensures c.short_law.ensures

pub returns-clause-bytes : goal.returns-clause-bytes
returns-clause-bytes g c =
    IfOk-weaker c.short_bytes.result _ _ (λ r bytes. bytes ∙ ap encoding (c.empty_draft.ensures
    ∙ ap (λ (rcode : ℕ). bare c.args.start (asked_alone (option_copied c.args.echo)) false rcode) c.rcode.ensures)) c.short_bytes.ensures.bytes

pub returns-clause-message : goal.returns-clause-message
returns-clause-message g c =
    IfOk-weaker c.short_bytes.result _ _ (λ r message. subst (λ (m : Message). IsMessage r.items (folded_message m)) (c.empty_draft.ensures
    ∙ ap (λ (rcode : ℕ). bare c.args.start (asked_alone (option_copied c.args.echo)) false rcode) c.rcode.ensures) message) c.short_bytes.ensures.message

pub returns-clause-compressed : goal.returns-clause-compressed
returns-clause-compressed g c =
    IfOk-weaker c.short_bytes.result _ _ (λ r compressed. subst (λ (m : Message). IsCompressed r.items m) (c.empty_draft.ensures
    ∙ ap (λ (rcode : ℕ). bare c.args.start (asked_alone (option_copied c.args.echo)) false rcode) c.rcode.ensures) compressed) c.short_bytes.ensures.compressed
