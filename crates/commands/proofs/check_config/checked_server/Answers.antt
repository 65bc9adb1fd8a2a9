-- The summary is made, or memory is wanting.
use Rattle.std.proofs.Common.{◌∙◌, ap, string_bytes}
use Rattle.std.proofs.lemmas.Result.{IfOk-weaker}
use Rattle.commands.specs.Checks.{summary_text}
use Rattle.commands.proofs.Checks.{starved_unstarted}
use Rattle.commands.proofs.check_config.checked_server.Goals as goal

pub returns-in-Ok-clause-ok : goal.returns-in-Ok-clause-ok
returns-in-Ok-clause-ok g c = IfOk-weaker c.made.result _ _ (λ s h. ap string_bytes h ∙ (c.in-Ok.ensures ∙ ap (summary_text c.args.config) c.deref.ensures.value)) c.made.ensures.ok

pub returns-clause-err : goal.returns-clause-err
returns-clause-err g c = starved_unstarted c.args.config _ _ c.starved.ensures
