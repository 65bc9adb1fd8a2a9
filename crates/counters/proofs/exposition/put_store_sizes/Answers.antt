-- The lines stand one behind the other.
use Rattle.std.proofs.lemmas.Result.{on_ok_weaker}
use Rattle.counters.specs.Exposition.{store_sizes}
use Rattle.counters.proofs.Texts.{five_behind}
use Rattle.counters.proofs.exposition.put_store_sizes.Goals as goal

pub returns : goal.returns
unfolding store_sizes
returns g c =
    on_ok_weaker c.put_store_size-4.result (λ last. five_behind _ _ _ _ _ _ _ _ _ _ _
    c.in_ok-put_head.ensures c.in_ok-put_store_size.ensures c.in_ok-put_store_size-2.ensures c.in_ok-put_store_size-3.ensures last)
    c.put_store_size-4.ensures
