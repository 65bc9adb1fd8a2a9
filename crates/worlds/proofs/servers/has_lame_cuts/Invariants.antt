use Rattle.std.proofs.Common.{◌≡◌, false, take}
use Rattle.std.specs.List.{list_any}
use Rattle.worlds.specs.Rules.{has_lame_cut}
use Rattle.worlds.proofs.servers.has_lame_cuts.Given as goal

abbrev pub invariant-loop-zone : goal.invariant-loop-zone
invariant-loop-zone g l = list_any (has_lame_cut l.catalog l.hosts) (take l.zone-index l.zones) ≡ false
