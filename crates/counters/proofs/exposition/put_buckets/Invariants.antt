-- The lines so far and those to what is left are those to all; what was added is what the buckets so far hold.
use Rattle.std.proofs.Common.{◌≡◌, ◌++◌, string_bytes, ◌+◌, ◌*◌, ◌≤◌, ◌^◌, drop}
use Rattle.counters.specs.Exposition.{bucket_lines, times_in}
use Rattle.counters.proofs.exposition.put_buckets.Given as goal

abbrev pub invariant-loop-bucket : goal.invariant-loop-bucket
invariant-loop-bucket g l =
    record {
      lines : string_bytes l.out ++ bucket_lines l.cells l.before (drop l.bucket-index l.buckets) ≡ string_bytes l.initial.out ++ bucket_lines l.cells 0 l.buckets;
      times : l.before + times_in l.cells (drop l.bucket-index l.buckets) ≡ times_in l.cells l.buckets;
      bound : l.before ≤ l.bucket-index * 2 ^ 64;
    }
