-- The metrics stand one behind the other.
use Rattle.std.proofs.lemmas.Result.{on_ok_weaker}
use Rattle.counters.specs.Exposition.{origin_metrics}
use Rattle.counters.proofs.Texts.{two_behind}
use Rattle.counters.proofs.exposition.put_origin_metrics.Goals as goal

pub returns : goal.returns
unfolding origin_metrics
returns g c =
    on_ok_weaker c.put_metric-2.result (λ last. two_behind _ _ _ _ _
    c.in_ok-put_metric.ensures last)
    c.put_metric-2.ensures
