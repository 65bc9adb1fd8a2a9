-- The lines stand one behind the other.
use Rattle.std.proofs.lemmas.Result.{on_ok_weaker}
use Rattle.counters.specs.Exposition.{times, totals}
use Rattle.counters.proofs.Texts.{three_behind_with}
use Rattle.counters.proofs.exposition.put_times.Goals as goal

pub returns : goal.returns
unfolding times
returns g c =
    on_ok_weaker c.put_totals.result
    (λ last. three_behind_with (totals c.args.cells.now) _ _ _ _ _ _ _ _ c.in_ok-count.ensures.0 c.in_ok-put_head.ensures c.in_ok-count.ensures.1 last)
    c.put_totals.ensures
