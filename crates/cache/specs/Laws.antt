-- Laws of keys' equality and hash.
use Rattle.std.specs.Prelude.{◌≡◌, true, ◌&&◌, nat_eq}
use Rattle.std.proofs.Common.{refl, ap, subst, eqb-true, eq-eqb}
use Rattle.std.specs.Cmp.{IsPartialEquivalence, IsEquivalence, partial_equiv_from_equiv, decided, first_so, second_so}
use Rattle.std.specs.Hash as fed
use Rattle.std.specs.Hash.{HashWrites}
use Rattle.dname.specs.Labels.{same_name}
use Rattle.dname.specs.Laws.{same_name-exact, same_name-refl}
use Rattle.lru_laws.specs.Orders.{IsExact}
use Rattle.cache.specs.Hashed.{HashedKey, plain, same_hashed}
use Rattle.cache.specs.Keys.{Slot, Kind, NameError, Key, same_slot, same_key}

same_slot-exact : (a b : Slot) → same_slot a b ≡ true → a ≡ b
same_slot-exact (Kind s) (Kind t) h = ap Kind (eqb-true s t h)
same_slot-exact (Kind s) NameError h = cc
same_slot-exact NameError (Kind t) h = cc
same_slot-exact NameError NameError h = refl

same_slot-refl : (a : Slot) → same_slot a a ≡ true
same_slot-refl (Kind s) = eq-eqb s s refl
same_slot-refl NameError = refl

same_key-exact : (a b : Key) → same_key a b ≡ true → a ≡ b
same_key-exact a b h =
    let n = same_name-exact a.name b.name (first_so (same_name a.name b.name) (same_slot a.slot b.slot) h) in
    let s = same_slot-exact a.slot b.slot (second_so (same_name a.name b.name) (same_slot a.slot b.slot) h) in
    λ i. record { name = n i; slot = s i }

same_key-refl : (a : Key) → same_key a a ≡ true
same_key-refl a = λ i. same_name-refl a.name i && same_slot-refl a.slot i

pub same_key_exact : IsExact same_key
same_key_exact = record { equal = same_key-exact; refl = same_key-refl }

same_hashed-exact : (a b : HashedKey) → same_hashed a b ≡ true → a ≡ b
same_hashed-exact a b h =
    let k = same_key-exact (plain a) (plain b) (first_so (same_key (plain a) (plain b)) (nat_eq a.hash b.hash) h) in
    let n = eqb-true a.hash b.hash (second_so (same_key (plain a) (plain b)) (nat_eq a.hash b.hash) h) in
    λ i. record { name = (k i).name; slot = (k i).slot; hash = n i }

same_hashed-refl : (a : HashedKey) → same_hashed a a ≡ true
same_hashed-refl a = λ i. same_key-refl (plain a) i && eq-eqb a.hash a.hash refl i

pub same_hashed_equiv : IsEquivalence same_hashed
same_hashed_equiv = decided same_hashed (λ a b. (same_hashed-exact a b, λ e. subst (λ k. same_hashed a k ≡ true) e (same_hashed-refl a)))

pub same_hashed_per : IsPartialEquivalence same_hashed
same_hashed_per = partial_equiv_from_equiv same_hashed_equiv

-- All entries of one name have one hash, so that a look-up finds them in one place.
abbrev pub fed_hash : HashedKey → HashWrites
fed_hash k = fed.u64 k.hash

pub same_hashed_fed : (a b : HashedKey) → same_hashed a b ≡ true → fed_hash a ≡ fed_hash b
same_hashed_fed a b h = ap fed_hash (same_hashed-exact a b h)
