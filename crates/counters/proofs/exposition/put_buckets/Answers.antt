-- One bucket more.
use Rattle.std.proofs.Common.{◌∙◌, arith}
use Rattle.counters.proofs.Texts.{bucket_more, times_more}
use Rattle.counters.proofs.exposition.put_buckets.Goals as goal

pub loop-bucket-preserved : goal.loop-bucket-preserved
loop-bucket-preserved g c =
    record {
      lines = bucket_more c.args.cells.now c.args.buckets.now c.loop-bucket.bucket-index _ c.loop-bucket.before _ _ _ _ c.loop-bucket-test.true (c.from-before.ensures ∙ c.value.ensures) c.in_ok-put_bucket.ensures c.loop-bucket.invariant.lines;
      times = times_more c.args.cells.now c.args.buckets.now c.loop-bucket.bucket-index _ c.loop-bucket.before _ _ c.loop-bucket-test.true (c.from-before.ensures ∙ c.value.ensures) c.loop-bucket.invariant.times;
      bound = omega (arith, c.loop-bucket.invariant.bound, c.from-before.ensures, c.value.type_inv);
    }
