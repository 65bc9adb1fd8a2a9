-- What is unknown of the names so far.
use Rattle.std.proofs.Common.{◌≡◌, ◌&&◌, not, filter, take}
use Rattle.std.specs.List.{list_any}
use Rattle.dname.specs.Labels.{Name, same_name}
use Rattle.referral.specs.Cuts.{ServerAddress}
use Rattle.frames.specs.Frames.{has_address}
use Rattle.frames.proofs.taken.unknown_names.Given as goal

abbrev pub invariant-loop-name : goal.invariant-loop-name
invariant-loop-name g l = l.unknown ≡ filter (λ (n : Name). not (list_any (λ (s : ServerAddress). same_name s.name n && has_address l.taken s.address) l.servers)) (take l.name-index l.names)
