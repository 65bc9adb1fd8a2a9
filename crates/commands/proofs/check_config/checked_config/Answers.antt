-- The zones are read, and the rest is tried, or a zone is not read.
use Rattle.std.proofs.Common.{◌∙◌, sym, ap, subst, inl, inr, ⊎_elim, List, string_bytes}
use Rattle.std.proofs.lemmas.Result.{IfOk-weaker, IfErr-weaker}
use Rattle.config.specs.Configs.{Config, LocalZone}
use Rattle.commands.specs.Checks.{Explains, IsUnstarted}
use Rattle.commands.specs.Servers.{AreZonesIn, LacksZone}
use Rattle.commands.proofs.Storms.{err_weaker}
use Rattle.commands.proofs.check_config.checked_config.Goals as goal

pub returns-clause-ok : goal.returns-clause-ok
returns-clause-ok g c =
    IfOk-weaker c.checked_server.result _ _
    (λ s h. record {
      zones = c.in_ok-zones.zones.items;
      local = subst (λ (ls : List LocalZone). AreZonesIn (g.T.Texts.held c.args.texts.now) ls c.in_ok-zones.zones.items) (c.deref.ensures.value ∙ ap (λ (s : Config). s.locals) c.config.view_is)
          c.in_ok-zones.ensures.ok;
      is = h;
    }) c.checked_server.ensures.ok

pub returns-clause-err : goal.returns-clause-err
returns-clause-err g c =
    IfErr-weaker c.checked_server.result _ _ (λ r h. (⊎_elim (λ u. inl (inr u)) (λ u. inr u) h.0, h.1 (g.T.Texts.held c.args.texts.now))) c.checked_server.ensures.err

pub returns-in_err-zones-clause-err : goal.returns-in_err-zones-clause-err
returns-in_err-zones-clause-err g c =
    err_weaker c.from_residual.result _ _
    (λ r is. subst (λ e. IsUnstarted (g.T.Texts.held c.args.texts.now) c.args.config e.fault × Explains (g.T.Texts.held c.args.texts.now) e.fault (string_bytes e.words)) (sym is) (
      inl (inl (subst (λ (ls : List LocalZone). LacksZone (g.T.Texts.held c.args.texts.now) ls c.in_err-zones.field-0.0.fault) (c.deref.ensures.value ∙ ap (λ (s : Config). s.locals) c.config.view_is)
          (c.in_err-zones.ensures.err).0)),
      (c.in_err-zones.ensures.err).1,
    ))
    c.from_residual.ensures.1
