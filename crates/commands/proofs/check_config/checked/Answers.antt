-- The text is read as the file of a server, or the line is told that is refused.
use Rattle.std.proofs.Common.{inr}
use Rattle.std.proofs.lemmas.Result.{IfOk-weaker, IfErr-weaker}
use Rattle.commands.proofs.Checks.{line_refused}
use Rattle.commands.proofs.check_config.checked.Goals as goal

pub returns-in-Ok-clause-ok : goal.returns-in-Ok-clause-ok
returns-in-Ok-clause-ok g c =
    IfOk-weaker c.checked_config.result _ _ (λ s h. record { file = c.args.text.now; there = c.requires; config = c.in-Ok.config; reads = c.in-Ok.ensures; is = h }) c.checked_config.ensures.ok

pub returns-in-Ok-clause-err : goal.returns-in-Ok-clause-err
returns-in-Ok-clause-err g c =
    IfErr-weaker c.checked_config.result _ _
    (λ r h. (inr (record { text = c.args.text.now; there = c.requires; config = c.in-Ok.config; reads = c.in-Ok.ensures; fails = h.0 }), h.1)) c.checked_config.ensures.err

pub returns-in-Err-clause-err : goal.returns-in-Err-clause-err
returns-in-Err-clause-err g c =
    line_refused (g.T.Texts.held c.args.texts.now) c.args.path c.args.text.now c.requires c.in-Err.error c.in-Err.ensures _ _ c.bad_line.ensures
