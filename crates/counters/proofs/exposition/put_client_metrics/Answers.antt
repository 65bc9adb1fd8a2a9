-- The metrics stand one behind the other.
use Rattle.std.proofs.lemmas.Result.{on_ok_weaker}
use Rattle.counters.specs.Exposition.{client_metrics}
use Rattle.counters.proofs.Texts.{four_behind}
use Rattle.counters.proofs.exposition.put_client_metrics.Goals as goal

pub returns : goal.returns
unfolding client_metrics
returns g c =
    on_ok_weaker c.put_origin_metrics.result (λ last. four_behind _ _ _ _ _ _ _ _ _
    c.in_ok-put_metric.ensures c.in_ok-put_metric-2.ensures c.in_ok-put_metric-3.ensures last)
    c.put_origin_metrics.ensures
