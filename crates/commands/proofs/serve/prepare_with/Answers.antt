-- The zones are read, and the server is made of them and of the rest of the file.
use Rattle.std.proofs.Common.{◌∙◌, sym, ap, subst, inl, inr, List}
use Rattle.std.proofs.lemmas.Result.{IfOk-weaker, IfErr-weaker}
use Rattle.config.specs.Configs.{Config, LocalZone}
use Rattle.commands.specs.Servers.{AreZonesIn, IsStartFault, LacksZone}
use Rattle.commands.specs.declared.fault.Fault.{Fault}
use Rattle.commands.proofs.Storms.{err_weaker}
use Rattle.commands.proofs.serve.prepare_with.Goals as goal

pub returns-clause-ok : goal.returns-clause-ok
returns-clause-ok g c =
    IfOk-weaker c.prepare_zones.result _ _
    (λ p h. (
      h.0,
      record {
        zones = c.in_ok-zones.zones.items;
        local = subst (λ (ls : List LocalZone). AreZonesIn (g.T.Texts.held c.args.texts.now) ls c.in_ok-zones.zones.items) (c.deref.ensures.value ∙ ap (λ (s : Config). s.locals) c.config.view_is)
            c.in_ok-zones.ensures.ok;
        is = h.1;
      },
    )) c.prepare_zones.ensures.ok

pub returns-clause-err : goal.returns-clause-err
returns-clause-err g c = IfErr-weaker c.prepare_zones.result _ _ (λ f h. inr h) c.prepare_zones.ensures.err

pub returns-in_err-zones-clause-err : goal.returns-in_err-zones-clause-err
returns-in_err-zones-clause-err g c =
    err_weaker c.from_residual.result _ _
    (λ (f : Fault) is. subst (λ (e : Fault). IsStartFault (g.T.Texts.held c.args.texts.now) c.args.config e) (sym is)
    (inl (subst (λ (ls : List LocalZone). LacksZone (g.T.Texts.held c.args.texts.now) ls c.in_err-zones.field-0.0) (c.deref.ensures.value ∙ ap (λ (s : Config). s.locals) c.config.view_is) c.in_err-zones.ensures.err)))
    c.from_residual.ensures.1
