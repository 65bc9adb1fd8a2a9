-- The code's RDATA, seen as a plain value.
use Rattle.rdata.specs.Data.{Datum, Ipv4, Ns, Cname, Soa, Ptr, Mx, Txt, Ipv6, Srv}
use Rattle.rdata.specs.declared.data.RData.{RData}
use Rattle.rdata.specs.declared.data.RData.TheVariants as kept

abbrev pub datum : {H : Type 0} → RData H → Datum
datum (kept.A a) = Ipv4 a.0
datum (kept.Ns n) = Ns n
datum (kept.Cname n) = Cname n
datum (kept.Soa s) = Soa s.value
datum (kept.Ptr n) = Ptr n
datum (kept.Mx p n) = Mx p n
datum (kept.Txt ts) = Txt ts
datum (kept.Aaaa a) = Ipv6 a
datum (kept.Srv s) = Srv s.value
