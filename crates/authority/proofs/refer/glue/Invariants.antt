use Rattle.std.proofs.Common.{◌≡◌, take}
use Rattle.zone.specs.Look.{glue_of}
use Rattle.authority.proofs.refer.glue.Given as goal

abbrev pub invariant-loop-server : goal.invariant-loop-server
invariant-loop-server g l = l.set ≡ glue_of l.zone.records (take l.server-index l.servers)
