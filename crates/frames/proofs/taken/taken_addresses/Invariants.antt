-- What is taken of the servers so far.
use Rattle.std.proofs.Common.{◌≡◌, map, take}
use Rattle.referral.specs.Cuts.{ServerAddress}
use Rattle.frames.specs.Frames.{each_once, most_taken}
use Rattle.frames.proofs.taken.taken_addresses.Given as goal

abbrev pub invariant-loop-server : goal.invariant-loop-server
invariant-loop-server g l = l.taken.items ≡ take most_taken (each_once (map (λ (s : ServerAddress). s.address) (take l.server-index l.servers)))
