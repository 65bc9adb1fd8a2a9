-- The bytes that a message may have (RFC 1035, sections 2.3.4 and 4.2.2).
use Rattle.std.specs.Prelude.{ℕ}
use Rattle.wire.specs.declared.via.TheConstants.{UDP_LIMIT, TCP_LIMIT}
use Rattle.wire.specs.declared.via.Via.{Via}
use Rattle.wire.specs.declared.via.Via.TheVariants.{Udp, Tcp}

abbrev pub limit_of : Via → ℕ
limit_of Udp = UDP_LIMIT
limit_of Tcp = TCP_LIMIT
