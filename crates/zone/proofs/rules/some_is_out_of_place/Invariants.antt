use Rattle.std.proofs.Common.{◌≡◌, false, take}
use Rattle.std.specs.List.{list_any}
use Rattle.zone.specs.Rules.{is_out_of_place}
use Rattle.zone.proofs.rules.some_is_out_of_place.Given as goal

abbrev pub invariant-loop-record : goal.invariant-loop-record
invariant-loop-record g l = list_any (is_out_of_place l.cuts) (take l.record-index l.records) ≡ false
