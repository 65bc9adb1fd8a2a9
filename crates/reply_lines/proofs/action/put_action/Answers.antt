-- The action is a reply, or an ask.
use Rattle.std.proofs.Common.{sym, subst, string_bytes}
use Rattle.std.specs.Prelude.{OnOk}
use Rattle.reply_lines.specs.Actions.{IsPrinted}
use Rattle.reply_lines.specs.declared.action.Action.{Action}
use Rattle.reply_lines.proofs.action.put_action.Goals as goal

pub returns-in-Reply-clause-ok : goal.returns-in-Reply-clause-ok
returns-in-Reply-clause-ok g c =
    subst (λ (a : Action). OnOk c.put_reply_bytes.result (IsPrinted a (string_bytes c.args.out.now) (string_bytes c.put_reply_bytes.new.out))) (sym c.in-Reply.is)
    c.put_reply_bytes.ensures.ok

pub returns-in-Ask-clause-ok : goal.returns-in-Ask-clause-ok
returns-in-Ask-clause-ok g c =
    subst (λ (a : Action). OnOk c.put_ask_bytes.result (IsPrinted a (string_bytes c.args.out.now) (string_bytes c.put_ask_bytes.new.out))) (sym c.in-Ask.is)
    c.put_ask_bytes.ensures.ok
