-- The place that is sought is sought from here on.
use Rattle.std.proofs.Common.{◌≡◌, drop}
use Rattle.frames.specs.Frames.{is_skipped, place_from, next_place}
use Rattle.frames.proofs.frame.Frame.next_place.Given as goal

abbrev pub invariant-loop-place : goal.invariant-loop-place
invariant-loop-place g l = place_from (is_skipped l.failed l.self) l.place (drop l.place l.names) ≡ next_place l.failed l.self
