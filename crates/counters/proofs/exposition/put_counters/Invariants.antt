-- The lines so far and those to what is left are those to all.
use Rattle.std.proofs.Common.{◌≡◌, ◌++◌, drop, string_bytes}
use Rattle.std.specs.List.{flat_map}
use Rattle.counters.specs.Exposition.{counter_line}
use Rattle.counters.proofs.exposition.put_counters.Given as goal

abbrev pub invariant-loop-counter : goal.invariant-loop-counter
invariant-loop-counter g l =
    string_bytes l.out ++ flat_map (counter_line l.cells) (drop l.counter-index l.counters) ≡ string_bytes l.initial.out ++ flat_map (counter_line l.cells) l.counters
