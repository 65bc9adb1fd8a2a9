-- The first of a list that passes a test; the records of an owner and a type.
use Rattle.std.proofs.Common.{◌≡◌, ◌≢◌, ℕ, Bool, true, false, cond, nat_eq, Some, None, List, [], ◌∷◌, ◌++◌, ⊎_elim, refl, sym, ◌∙◌, ap, subst, arith, eqb-true, eq-eqb}
use Rattle.std.specs.Prelude.{Contains, filter, find}
use Rattle.std.proofs.lemmas.Bool.{and_parts, and_from}
use Rattle.dname.specs.Labels.{Name, same_name}
use Rattle.dname.specs.Laws.{same_name-exact, same_name-equal}
use Rattle.rdata.specs.Data.{Datum, Ipv4, Ns, Cname, Soa, Ptr, Mx, Txt, Ipv6, Srv, type_of}
use Rattle.rdata.specs.Records.{Record}
use Rattle.rdata.specs.Selected.{is_at, records_at}
use Rattle.zone.specs.Look.{is_type}
use Rattle.zone.specs.Zones.{ns_type}
use Rattle.zone.proofs.LawLists.{none_in, in_cases, filter_of, filter_in}
use Rattle.world_truth.specs.Reading.{IsIn, HasNo, IsFirst, IsFirstOf}

-- A list's first that passes a test, between what stands before it and behind it.
pub record IsHead {X : Type 0} (p : X → Bool) (xs : List X) (x : X) : Type 0 where
  pub front : List X
  pub back : List X
  pub is : xs ≡ front ++ x ∷ back
  pub passes : p x ≡ true
  pub before : (y : X) → Contains front y → p y ≡ false

module _ {X : Type 0} (p : X → Bool) where
  one_before : (y x : X) (xs : List X) → p y ≡ false → IsHead p xs x → IsHead p (y ∷ xs) x
  one_before y x xs e h = record {
    front = y ∷ h.front;
    back = h.back;
    is = ap (λ (zs : List X). y ∷ zs) h.is;
    passes = h.passes;
    before = λ z m. ⊎_elim (λ q. sym (ap p q) ∙ e) (λ n. h.before z n) (in_cases y z h.front m);
  }

  at_once : (x : X) (xs : List X) → p x ≡ true → IsHead p (x ∷ xs) x
  at_once x xs e = record { front = []; back = xs; is = refl; passes = e; before = λ z m. absurd (none_in z m) }

  split_found : (y x : X) (xs : List X) (b : Bool) → p y ≡ b → (find p xs ≡ Some x → IsHead p xs x) → cond b (Some y) (find p xs) ≡ Some x → IsHead p (y ∷ xs) x
  split_found y x xs true e k h = let q : y ≡ x = cc in subst (λ z. IsHead p (y ∷ xs) z) q (at_once y xs e)
  split_found y x xs false e k h = one_before y x xs e (k h)

  pub found_head : (xs : List X) (x : X) → find p xs ≡ Some x → IsHead p xs x
  found_head [] x h = absurd (cc)
  found_head (y ∷ xs) x h = split_found y x xs (p y) refl (found_head xs x) h

  split_kept : (y x : X) (xs ys : List X) (b : Bool) → p y ≡ b → (filter p xs ≡ x ∷ ys → IsHead p xs x) → cond b (y ∷ filter p xs) (filter p xs) ≡ x ∷ ys → IsHead p (y ∷ xs) x
  split_kept y x xs ys true e k h = let q : y ≡ x = cc in subst (λ z. IsHead p (y ∷ xs) z) q (at_once y xs e)
  split_kept y x xs ys false e k h = one_before y x xs e (k h)

  pub kept_head : (xs ys : List X) (x : X) → filter p xs ≡ x ∷ ys → IsHead p xs x
  kept_head [] ys x h = absurd (cc)
  kept_head (y ∷ xs) ys x h = split_kept y x xs ys (p y) refl (kept_head xs ys x) h

  split_none : (y x : X) (xs : List X) (b : Bool) → p y ≡ b → (find p xs ≡ None → Contains xs x → p x ≡ false) → cond b (Some y) (find p xs) ≡ None → Contains (y ∷ xs) x → p x ≡ false
  split_none y x xs true e k h m = absurd (cc)
  split_none y x xs false e k h m = ⊎_elim (λ q. sym (ap p q) ∙ e) (k h) (in_cases y x xs m)

  pub none_found : (xs : List X) (x : X) → find p xs ≡ None → Contains xs x → p x ≡ false
  none_found [] x h m = absurd (none_in x m)
  none_found (y ∷ xs) x h m = split_none y x xs (p y) refl (none_found xs x) h m

-- Records of an owner and a type.
pub at_is : (q : Name) (t : ℕ) (r : Record) → is_at q t r ≡ true → (r.owner ≡ q) × (type_of r.value ≡ t)
at_is q t r h = let p = and_parts (same_name r.owner q) (nat_eq (type_of r.value) t) h in (same_name-exact r.owner q p.0, eqb-true (type_of r.value) t p.1)

pub at_holds : (q : Name) (t : ℕ) (r : Record) → r.owner ≡ q → type_of r.value ≡ t → is_at q t r ≡ true
at_holds q t r o k = and_from (same_name r.owner q) (nat_eq (type_of r.value) t) (same_name-equal r.owner q o) (eq-eqb (type_of r.value) t k)

pub selected_in : (rs : List Record) (q : Name) (t : ℕ) (r : Record) → Contains (records_at q t rs) r → IsIn rs q t r
selected_in rs q t r h = let (m, e) = filter_of (is_at q t) rs r h in let a = at_is q t r e in (m, a.0, a.1)

pub in_selected : (rs : List Record) (q : Name) (t : ℕ) (r : Record) → IsIn rs q t r → Contains (records_at q t rs) r
in_selected rs q t r (m, o, k) = filter_in (is_at q t) rs r m (at_holds q t r o k)

pub none_selected : (rs : List Record) (q : Name) (t : ℕ) → records_at q t rs ≡ [] → HasNo rs q t
none_selected rs q t e r h = none_in r (subst (λ (xs : List Record). Contains xs r) e (in_selected rs q t r h))

not_both : (b : Bool) → b ≡ true → b ≡ false → ⊥
not_both b e f = absurd (cc)

pub first_selected : (rs xs : List Record) (q : Name) (t : ℕ) (r : Record) → records_at q t rs ≡ r ∷ xs → IsFirstOf rs q t r
first_selected rs xs q t r e =
    let h = kept_head (is_at q t) rs xs r e in
    let a = at_is q t r h.passes in
    record {
      front = h.front;
      back = h.back;
      is = h.is;
      owner = a.0;
      kind = a.1;
      before = λ s (m, o, k). not_both (is_at q t s) (at_holds q t s o k) (h.before s m);
    }

-- The first record of a type.
pub first_of_type : (rs : List Record) (t : ℕ) (r : Record) → find (is_type t) rs ≡ Some r → IsFirst rs t r
first_of_type rs t r e =
    let h = found_head (is_type t) rs r e in
    record {
      front = h.front;
      back = h.back;
      is = h.is;
      kind = eqb-true (type_of r.value) t h.passes;
      before = λ s m k. not_both (is_type t s) (eq-eqb (type_of s.value) t k) (h.before s m);
    }

pub none_of_type : (rs : List Record) (t : ℕ) → find (is_type t) rs ≡ None → (r : Record) → Contains rs r → type_of r.value ≢ t
none_of_type rs t e r m k = not_both (is_type t r) (eq-eqb (type_of r.value) t k) (none_found (is_type t) rs r e m)

-- The data of an NS record.
pub ns_of : (d : Datum) → type_of d ≡ ns_type → (n : Name) × (d ≡ Ns n)
ns_of (Ipv4 a) h = absurd (omega (arith, h))
ns_of (Ns n) h = (n, refl)
ns_of (Cname n) h = absurd (omega (arith, h))
ns_of (Soa s) h = absurd (omega (arith, h))
ns_of (Ptr n) h = absurd (omega (arith, h))
ns_of (Mx p n) h = absurd (omega (arith, h))
ns_of (Txt ts) h = absurd (omega (arith, h))
ns_of (Ipv6 a) h = absurd (omega (arith, h))
ns_of (Srv v) h = absurd (omega (arith, h))

pub ipv4_of : (d : Datum) → type_of d ≡ 1 → (a : List ℕ) × (d ≡ Ipv4 a)
ipv4_of (Ipv4 a) h = (a, refl)
ipv4_of (Ns n) h = absurd (omega (arith, h))
ipv4_of (Cname n) h = absurd (omega (arith, h))
ipv4_of (Soa s) h = absurd (omega (arith, h))
ipv4_of (Ptr n) h = absurd (omega (arith, h))
ipv4_of (Mx p n) h = absurd (omega (arith, h))
ipv4_of (Txt ts) h = absurd (omega (arith, h))
ipv4_of (Ipv6 a) h = absurd (omega (arith, h))
ipv4_of (Srv v) h = absurd (omega (arith, h))
