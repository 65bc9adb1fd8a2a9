-- Laws of the equality and the hash of cached failures.
use Rattle.std.specs.Prelude.{◌≡◌, true, ◌&&◌, nat_eq, [], ◌∷◌, ◌++◌}
use Rattle.std.proofs.Common.{refl, ap, subst, eqb-true, eq-eqb}
use Rattle.std.specs.Cmp.{IsPartialEquivalence, IsEquivalence, partial_equiv_from_equiv, decided, first_so, second_so}
use Rattle.std.specs.Cmp.Lexicographic.{pointwise, bytes_decides}
use Rattle.std.specs.Hash.{HashWrites}
use Rattle.dname.specs.Labels.{same_name}
use Rattle.dname.specs.Laws.{fed_name, same_name-exact, same_name-refl}
use Rattle.rdata.specs.declared.addr.Addr.{Addr}
use Rattle.lru_laws.specs.Orders.{IsExact}
use Rattle.cache.specs.Failures.{FailedAsk, same_failed}

same_server-exact : (a b : Addr) → pointwise nat_eq a.0 b.0 ≡ true → a ≡ b
same_server-exact a b h = λ i. record { 0 = (bytes_decides a.0 b.0).0 h i }

same_failed-exact : (a b : FailedAsk) → same_failed a b ≡ true → a ≡ b
same_failed-exact a b h =
    let server_and_name = pointwise nat_eq (a.server).0 (b.server).0 && same_name a.name b.name in
    let rest = second_so (nat_eq a.kind b.kind) server_and_name h in
    let k = eqb-true a.kind b.kind (first_so (nat_eq a.kind b.kind) server_and_name h) in
    let s = same_server-exact a.server b.server (first_so (pointwise nat_eq (a.server).0 (b.server).0) (same_name a.name b.name) rest) in
    let n = same_name-exact a.name b.name (second_so (pointwise nat_eq (a.server).0 (b.server).0) (same_name a.name b.name) rest) in
    λ i. record { name = n i; kind = k i; server = s i }

same_failed-refl : (a : FailedAsk) → same_failed a a ≡ true
same_failed-refl a = λ i. eq-eqb a.kind a.kind refl i && ((bytes_decides (a.server).0 (a.server).0).1 refl i && same_name-refl a.name i)

pub same_failed_exact : IsExact same_failed
same_failed_exact = record { equal = same_failed-exact; refl = same_failed-refl }

pub same_failed_equiv : IsEquivalence same_failed
same_failed_equiv = decided same_failed (λ a b. (same_failed-exact a b, λ e. subst (λ k. same_failed a k ≡ true) e (same_failed-refl a)))

pub same_failed_per : IsPartialEquivalence same_failed
same_failed_per = partial_equiv_from_equiv same_failed_equiv

-- The types of one name and server have one hash; two servers of one name need not.
abbrev pub fed_failed : FailedAsk → HashWrites
fed_failed k = fed_name k.name ++ (k.server).0 ∷ []

pub same_failed_fed : (a b : FailedAsk) → same_failed a b ≡ true → fed_failed a ≡ fed_failed b
same_failed_fed a b h = ap fed_failed (same_failed-exact a b h)
