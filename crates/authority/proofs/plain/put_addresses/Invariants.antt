use Rattle.std.proofs.Common.{◌≡◌, ◌&&◌, fold, filter, take}
use Rattle.rdata.specs.Records.{Record}
use Rattle.zone.specs.Look.{add_glue, is_owned, is_address}
use Rattle.authority.proofs.plain.put_addresses.Given as goal

abbrev pub invariant-loop-rr : goal.invariant-loop-rr
invariant-loop-rr g l = l.set ≡ fold add_glue l.initial.set (filter (λ (r : Record). is_owned l.name r && is_address r) (take l.rr-index l.records))
