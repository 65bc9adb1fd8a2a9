use Rattle.std.proofs.Common.{rules, ◌≡◌, ◌∙◌, sym, ap, option_copied, Option}
use Rattle.message_grammar.specs.Messages.{Question}
use Rattle.events.specs.Plain.{plain_outcome}
use Rattle.events.specs.Views.{action_view}
use Rattle.typed.specs.Actions.{refused}
use Rattle.typed.specs.Views.{said_view}
use Rattle.typed.proofs.Saying.{written_reply, written_refusal, written_ask}
use Rattle.typed.proofs.write.write_action.Goals as goal

pub returns-in_ok-reply_to-in-Reply : goal.returns-in_ok-reply_to-in-Reply
returns-in_ok-reply_to-in-Reply g c =
    written_reply c.in-Reply.client_query (plain_outcome c.in-Reply.outcome) (action_view c.in_ok-reply_to-in-Reply.field-0) c.in_ok-reply_to-in-Reply.ensures.reply
    ∙ sym (ap said_view c.in-Reply.is)

pub returns-in_ok-refuse-in-Refusal : goal.returns-in_ok-refuse-in-Refusal
returns-in_ok-refuse-in-Refusal g c =
    let r = c.in-Refusal in
    let same : option_copied c.lent_echo.result ≡ c.in-Refusal.echo = search rules in
    written_refusal r.client r.way r.refusal r.start (option_copied c.lent_echo.result) (action_view c.in_ok-refuse-in-Refusal.field-0) c.in_ok-refuse-in-Refusal.ensures.reply
    ∙ (ap (λ (echo : Option Question). refused r.client r.way r.refusal r.start echo) same ∙ sym (ap said_view c.in-Refusal.is))

pub returns-in_ok-send-in-Ask : goal.returns-in_ok-send-in-Ask
returns-in_ok-send-in-Ask g c =
    written_ask c.in-Ask.port c.in-Ask.ask (action_view c.in_ok-send-in-Ask.field-0) c.in_ok-send-in-Ask.ensures.sent ∙ sym (ap said_view c.in-Ask.is)
