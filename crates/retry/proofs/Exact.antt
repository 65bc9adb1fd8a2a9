-- Equality of addresses is exact.
use Rattle.std.proofs.Common.{◌≡◌, true, refl}
use Rattle.std.specs.Cmp.Lexicographic.{bytes_decides}
use Rattle.rdata.specs.declared.addr.Addr.{Addr}
use Rattle.lru_laws.specs.Orders.{IsExact}
use Rattle.retry.specs.Penalties.{same_addr}

equal : (a b : Addr) → same_addr a b ≡ true → a ≡ b
equal a b h = λ i. record { 0 = (bytes_decides a.0 b.0).0 h i }

pub same_addr_exact : IsExact same_addr
same_addr_exact = record { equal = equal; refl = λ a. (bytes_decides a.0 a.0).1 refl }
