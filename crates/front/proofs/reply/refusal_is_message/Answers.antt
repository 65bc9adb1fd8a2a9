use Rattle.std.proofs.Common.{◌∙◌, ap, subst, arith, option_copied, false, ℕ, ◌≤◌, length}
use Rattle.message_grammar.specs.Messages.{Message, IsMessage, encoding, folded_message}
use Rattle.message_grammar.proofs.Whole.{encoding_holds}
use Rattle.wire.specs.Drafts.{asked_alone}
use Rattle.front.specs.Replies.{bare}
use Rattle.front.proofs.Short.{bare_fits}
use Rattle.front.proofs.reply.refusal_is_message.Goals as goal

pub returns : goal.returns
returns g c =
    let written = c.empty_draft.result in
    let fits : length (encoding written) ≤ 512 = bare_fits c.args.start (option_copied c.args.echo) c.rcode.result written c.empty_draft.ensures c.short_law.ensures in
    subst (λ (m : Message). IsMessage (encoding m) (folded_message m))
    (c.empty_draft.ensures ∙ ap (λ (rcode : ℕ). bare c.args.start (asked_alone (option_copied c.args.echo)) false rcode) c.rcode.ensures)
    (encoding_holds written c.writable_law.ensures (omega arith))
