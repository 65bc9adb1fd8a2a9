-- The metrics stand one behind the other.
use Rattle.std.proofs.lemmas.Result.{on_ok_weaker}
use Rattle.counters.specs.Exposition.{exposition}
use Rattle.counters.proofs.Texts.{six_behind}
use Rattle.counters.proofs.exposition.put_metrics.Goals as goal

pub returns : goal.returns
unfolding exposition
returns g c =
    on_ok_weaker c.put_store_sizes.result (λ last. six_behind _ _ _ _ _ _ _ _ _ _ _ _ _
    c.in_ok-put_client_metrics.ensures c.in_ok-put_ask_metrics.ensures c.in_ok-put_loss_metrics.ensures c.in_ok-put_times.ensures
    c.in_ok-put_gauge.ensures last)
    c.put_store_sizes.ensures
