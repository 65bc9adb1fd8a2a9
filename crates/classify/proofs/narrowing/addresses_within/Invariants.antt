use Rattle.std.proofs.Common.{◌≡◌, ◌≤◌, length, take}
use Rattle.std.specs.Prelude.{filter}
use Rattle.limits.specs.Limits.{max_glue}
use Rattle.dname.specs.Labels.{is_under}
use Rattle.rdata.specs.Records.{Record}
use Rattle.classify.proofs.narrowing.addresses_within.Given as goal

abbrev pub invariant-loop-address : goal.invariant-loop-address
invariant-loop-address g l = (l.kept ≡ filter (λ (r : Record). is_under r.owner l.zone) (take l.address-index l.addresses)) × (length l.kept ≤ max_glue)
