use Rattle.std.proofs.Common.{◌≡◌, false, take}
use Rattle.std.specs.List.{list_any}
use Rattle.worlds.specs.Rules.{is_lame}
use Rattle.worlds.proofs.servers.has_lame_cut.Given as goal

abbrev pub invariant-loop-record : goal.invariant-loop-record
invariant-loop-record g l = list_any (is_lame l.catalog l.hosts (l.zone).origin) (take l.record-index l.record-items) ≡ false
