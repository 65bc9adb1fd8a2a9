use Rattle.std.proofs.Common.{◌≡◌, false, take}
use Rattle.std.specs.HashMap as hash
use Rattle.zone.specs.Last.{SetKey, same_key, last_ttl}
use Rattle.zone.proofs.Last.{last_mixed}
use Rattle.zone.proofs.ttls.has_mixed_ttls.Given as goal

abbrev pub invariant-loop-rr : goal.invariant-loop-rr
invariant-loop-rr g l = record {
  noted : (q : SetKey) → hash.get same_key l.ttls q ≡ last_ttl q (take l.rr-index l.records);
  equal : last_mixed (take l.rr-index l.records) ≡ false;
}
