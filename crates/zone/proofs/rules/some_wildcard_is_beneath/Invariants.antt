use Rattle.std.proofs.Common.{◌≡◌, false, take}
use Rattle.std.specs.List.{list_any}
use Rattle.zone.specs.Rules.{is_wildcard_beneath}
use Rattle.zone.proofs.rules.some_wildcard_is_beneath.Given as goal

abbrev pub invariant-loop-record : goal.invariant-loop-record
invariant-loop-record g l = list_any (is_wildcard_beneath l.cuts) (take l.record-index l.records) ≡ false
