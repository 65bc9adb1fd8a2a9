-- The text is read as the file of that server, or it is refused.
use Rattle.std.proofs.Common.{inl, inr, sym, subst}
use Rattle.std.proofs.lemmas.Result.{IfOk-weaker, IfErr-weaker}
use Rattle.config.specs.Configs.{config_of}
use Rattle.commands.specs.Servers.{IsNoServer}
use Rattle.commands.proofs.Scripts.{bad_line}
use Rattle.commands.proofs.serve.prepare.Goals as goal

pub returns-in-Ok-clause-ok : goal.returns-in-Ok-clause-ok
returns-in-Ok-clause-ok g c =
    IfOk-weaker c.prepare_with.result _ _ (λ p h. (record { config = c.in-Ok.config; is = c.in-Ok.ensures; listens = h.0 }, record { config = c.in-Ok.config; reads = c.in-Ok.ensures; is = h.1 })) c.prepare_with.ensures.ok

pub returns-in-Ok-clause-err : goal.returns-in-Ok-clause-err
returns-in-Ok-clause-err g c =
    IfErr-weaker c.prepare_with.result _ _
    (λ f h. inr (record { text = c.args.text.now; there = c.requires; config = c.in-Ok.config; reads = c.in-Ok.ensures; fails = inl h })) c.prepare_with.ensures.err

pub returns-in-Err-clause-err : goal.returns-in-Err-clause-err
returns-in-Err-clause-err g c =
    subst (IsNoServer (g.T.Texts.held c.args.texts.now) c.args.path.now) (sym c.of_line.ensures)
    (inl (bad_line config_of (g.T.Texts.held c.args.texts.now) c.args.path c.args.text.now c.requires c.in-Err.error c.in-Err.ensures))
