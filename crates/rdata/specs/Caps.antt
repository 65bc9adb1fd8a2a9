-- Records with TTLs of at most so many seconds (RFC 2181, section 8).
use Rattle.std.specs.Prelude.{ℕ, min}
use Rattle.rdata.specs.Records.{Record}

abbrev pub capped : ℕ → Record → Record
capped most r = record { owner = r.owner; ttl = min r.ttl most; value = r.value }
