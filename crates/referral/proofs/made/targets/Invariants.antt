use Rattle.std.proofs.Common.{◌≡◌, take}
use Rattle.rdata.specs.Targets.{targets_of}
use Rattle.referral.proofs.made.targets.Given as goal

abbrev pub invariant-loop-server : goal.invariant-loop-server
invariant-loop-server g l = l.names ≡ targets_of (take l.server-index l.servers)
