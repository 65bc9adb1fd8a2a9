-- The metrics stand one behind the other.
use Rattle.std.proofs.lemmas.Result.{on_ok_weaker}
use Rattle.counters.specs.Exposition.{ask_metrics}
use Rattle.counters.proofs.Texts.{three_behind}
use Rattle.counters.proofs.exposition.put_ask_metrics.Goals as goal

pub returns : goal.returns
unfolding ask_metrics
returns g c =
    on_ok_weaker c.put_metric-3.result (λ last. three_behind _ _ _ _ _ _ _
    c.in_ok-put_metric.ensures c.in_ok-put_metric-2.ensures last)
    c.put_metric-3.ensures
