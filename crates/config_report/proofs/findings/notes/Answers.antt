-- The notes, one behind the other.
use Rattle.std.proofs.Common.{◌≡◌, ◌∙◌, ap}
use Rattle.std.specs.Prelude.{is_some}
use Rattle.config.specs.Configs.{Config}
use Rattle.config_report.proofs.Appends.{all_notes}
use Rattle.config_report.proofs.findings.notes.Goals as goal

pub returns : goal.returns
returns g c =
    let b_is : c.is_some.result ≡ is_some (c.args.config.now).seed = c.is_some.ensures ∙ ap (λ (s : Config). is_some s.seed) c.config.view_is in
    all_notes c.args.config.now _ _ _ _ _ _ _ _ _ _ _ c.hint_count.ensures (ap (λ (s : Config). s.listen) c.config.view_is) (ap (λ (s : Config). s.metrics) c.config.view_is) (ap (λ (s : Config). s.sockets) c.config.view_is) b_is c.new-out.ensures.bytes
    c.in_ok-put_hints.ensures c.in_ok-put_listen.ensures c.in_ok-put_metrics.ensures c.in_ok-put_sockets.ensures c.in_ok-put_if.ensures
