-- What the look-up gives is the zone's link.
use Rattle.std.proofs.Common.{◌≡◌, ◌≢◌, ℕ, ◌⊎◌, inl, inr, ⊎_elim, Bool, true, false, cond, Option, Some, None, List, [], ◌∷◌, refl, sym, ◌∙◌, ap, subst, eqb-true, eq-eqb}
use Rattle.std.specs.Prelude.{Contains, map, find}
use Rattle.std.proofs.lemmas.Bool.{both_ways}
use Rattle.dname.specs.Labels.{star, IsAtOrUnder}
use Rattle.dname.specs.Laws.{same_name-exact, same_name-equal}
use Rattle.dname.proofs.Under.{is_under_holds}
use Rattle.rdata.specs.Data.{type_of}
use Rattle.rdata.specs.Records.{Record}
use Rattle.zone.specs.Zones.{Zone, At, Exists, cname_type, soa_type}
use Rattle.zone.specs.Links.{IsSource, IsFrom, HasNone, IsEmpty, IsDenial, lessened, Says, IsLink}
use Rattle.zone.specs.Ruled.{IsNamed, HasSoaAtOrigin, HasOneTtl}
use Rattle.zone.specs.Look.{is_type, is_owned, at, of_type, cut_of, exists, with_owner, firsts, said_alias, said_by, said, said_wild, wild_at, wild, link_by, denial_by, denial_of}
use Rattle.zone.proofs.LawLists.{none_in, first_in, filter_of, filter_in, map_of, map_in, find_of, any_from}
use Rattle.zone.proofs.LawFirsts.{firsts_of, firsts_has, firsts_distinct, firsts_some}
use Rattle.zone.proofs.LawExists.{cut_kept, exists_plain, some_or_none, is_beneath_name}
use Rattle.zone.proofs.LawTests.{uncut_holds, exists_holds, exists_is, closest_holds, closest_some}

-- The records of a type at a name.
pub at_of : (z : Zone) (s : List (List ℕ)) (t : ℕ) (r : Record) → Contains (of_type t (at s z.records)) r → At z s t r
at_of z s t r h =
    let m = filter_of (is_type t) (at s z.records) r h in
    let n = filter_of (is_owned s) z.records r m.0 in
    record { stands = n.0; owner = same_name-exact r.owner s n.1; kind = eqb-true (type_of r.value) t m.1 }

pub at_in : (z : Zone) (s : List (List ℕ)) (t : ℕ) (r : Record) → At z s t r → Contains (of_type t (at s z.records)) r
at_in z s t r a = filter_in (is_type t) (at s z.records) r (filter_in (is_owned s) z.records r a.stands (same_name-equal r.owner s a.owner)) (eq-eqb (type_of r.value) t a.kind)

none_at : (z : Zone) (s : List (List ℕ)) (t : ℕ) → of_type t (at s z.records) ≡ [] → HasNone z s t
none_at z s t e r a = none_in r (subst (λ (ys : List Record). Contains ys r) e (at_in z s t r a))

-- As they go out.
back_home : (q s : List (List ℕ)) (y : Record) → y.owner ≡ s → record (with_owner q y) { owner = s } ≡ y
back_home q s y e = λ i. record { owner = sym e i; ttl = y.ttl; value = y.value }

from_map : (z : Zone) (s q : List (List ℕ)) (t : ℕ) (x : Record) → Contains (map (with_owner q) (of_type t (at s z.records))) x → IsFrom z s q t x
from_map z s q t x h =
    let m = map_of (with_owner q) (of_type t (at s z.records)) x h in
    let a : At z s t m.0 = at_of z s t m.0 m.1 in (
      sym (ap (λ (w : Record). w.owner) m.2),
      subst (λ (w : Record). At z s t (record w { owner = s })) m.2 (subst (λ (w : Record). At z s t w) (sym (back_home q s m.0 a.owner)) a),
    )

in_map : (z : Zone) (s q : List (List ℕ)) (t : ℕ) (x : Record) → IsFrom z s q t x → Contains (map (with_owner q) (of_type t (at s z.records))) x
in_map z s q t x h =
    let y : Record = record x { owner = s } in
    let same : with_owner q y ≡ x = λ i. record { owner = sym h.0 i; ttl = x.ttl; value = x.value } in
    subst (λ (w : Record). Contains (map (with_owner q) (of_type t (at s z.records))) w) same (map_in (with_owner q) (of_type t (at s z.records)) y (at_in z s t y h.1))

-- One datum, one record: the TTLs are the same.
one_record : (z : Zone) (s q : List (List ℕ)) (t : ℕ) (x y : Record) → HasOneTtl z → IsFrom z s q t x → IsFrom z s q t y → y.value ≡ x.value → y ≡ x
one_record z s q t x y one h k e =
    let a : At z s t (record x { owner = s }) = h.1 in
    let b : At z s t (record y { owner = s }) = k.1 in
    let ttl : y.ttl ≡ x.ttl = one (record y { owner = s }) (record x { owner = s }) b.stands a.stands refl (b.kind ∙ sym a.kind) in
    let owner : y.owner ≡ x.owner = k.0 ∙ sym h.0 in
    λ i. record { owner = owner i; ttl = ttl i; value = e i }

in_firsts : (z : Zone) (s q : List (List ℕ)) (t : ℕ) (x : Record) → HasOneTtl z → IsFrom z s q t x → Contains (firsts (map (with_owner q) (of_type t (at s z.records)))) x
in_firsts z s q t x one h =
    let all : List Record = map (with_owner q) (of_type t (at s z.records)) in
    let m = firsts_has all x (in_map z s q t x h) in
    let same : m.0 ≡ x = one_record z s q t x m.0 one h (from_map z s q t m.0 (firsts_of all m.0 m.1)) m.2 in
    subst (λ (w : Record). Contains (firsts all) w) same m.1

-- What the records at a source say.
alias_says : (z : Zone) (s q : List (List ℕ)) (t : ℕ) (soa : Record) (xs : List Record) → HasNone z s t → (Exists z q ⊎ (IsEmpty z s → ⊥)) → IsDenial z soa
    → of_type cname_type (at s z.records) ≡ xs → Says z s q t (said_alias soa q xs)
alias_says z s q t soa [] none some d e = (none, none_at z s cname_type e, some, d)
alias_says z s q t soa (r ∷ rs) none some d e = (
  none,
  from_map z s q cname_type (with_owner q r)
      (map_in (with_owner q) (of_type cname_type (at s z.records)) r (subst (λ (ys : List Record). Contains ys r) (sym e) (first_in r rs))),
)

by_says : (z : Zone) (s q : List (List ℕ)) (t : ℕ) (soa : Record) (xs : List Record) → HasOneTtl z → (Exists z q ⊎ (IsEmpty z s → ⊥)) → IsDenial z soa
    → of_type t (at s z.records) ≡ xs → Says z s q t (said_by soa q (at s z.records) xs)
by_says z s q t soa [] one some d e = alias_says z s q t soa (of_type cname_type (at s z.records)) (none_at z s t e) some d refl
by_says z s q t soa (r ∷ rs) one some d e = (
  λ x h. from_map z s q t x (firsts_of (map (with_owner q) (of_type t (at s z.records))) x (subst (λ (ys : List Record). Contains (firsts (map (with_owner q) ys)) x) (sym e) h)),
  λ x h. subst (λ (ys : List Record). Contains (firsts (map (with_owner q) ys)) x) e (in_firsts z s q t x one h),
  firsts_distinct (map (with_owner q) (r ∷ rs)),
  firsts_some (with_owner q r) (map (with_owner q) rs),
)

pub own_says : (z : Zone) (s q : List (List ℕ)) (t : ℕ) (soa : Record) → HasOneTtl z → (Exists z q ⊎ (IsEmpty z s → ⊥)) → IsDenial z soa → Says z s q t (said soa q t (at s z.records))
own_says z s q t soa one some d = by_says z s q t soa (of_type t (at s z.records)) one some d refl

wild_says : (z : Zone) (s q : List (List ℕ)) (t : ℕ) (soa : Record) (xs : List Record) → HasOneTtl z → (Exists z q → ⊥) → IsDenial z soa
    → at s z.records ≡ xs → Says z s q t (said_wild soa q t xs)
wild_says z s q t soa [] one none d e =
    (λ u r a. none_in r (subst (λ (ys : List Record). Contains ys r) (ap (of_type u) e) (at_in z s u r a)), none, d)
wild_says z s q t soa (r ∷ rs) one none d e =
    subst (λ (ys : List Record). Says z s q t (said soa q t ys)) e (own_says z s q t soa one (inr (λ empty. empty (type_of r.value) r here)) d)
  where
    stands : Contains (at s z.records) r
    stands = subst (λ (ys : List Record). Contains ys r) (sym e) (first_in r rs)

    here : At z s (type_of r.value) r
    here = at_of z s (type_of r.value) r (filter_in (is_type (type_of r.value)) (at s z.records) r stands (eq-eqb (type_of r.value) (type_of r.value) refl))

-- The zone's SOA, and its negative answer.
pub record SoaIs (z : Zone) (soa : Record) : Type 0 where
  pub it : Record
  pub stands : Contains z.records it
  pub kind : type_of it.value ≡ soa_type
  pub lesser : soa ≡ lessened it

soa_by : (z : Zone) (soa : Record) (o : Option Record) → find (is_type soa_type) z.records ≡ o → denial_by o ≡ Some soa → SoaIs z soa
soa_by z soa None e h = absurd (cc)
soa_by z soa (Some r) e h =
    let m = find_of (is_type soa_type) z.records r e in
    record { it = r; stands = m.0; kind = eqb-true (type_of r.value) soa_type m.1; lesser = let k : lessened r ≡ soa = cc in sym k }

pub soa_of : (z : Zone) (soa : Record) → denial_of z ≡ Some soa → SoaIs z soa
soa_of z soa h = soa_by z soa (find (is_type soa_type) z.records) refl h

pub denial_is : (z : Zone) (soa : Record) → HasSoaAtOrigin z → denial_of z ≡ Some soa → IsDenial z soa
denial_is z soa there h = let m = soa_of z soa h in (m.it, record { stands = m.stands; owner = there m.it m.stands m.kind; kind = m.kind }, m.lesser)

-- The origin exists where no cut stands over a name under it.
origin_uncut : (z : Zone) (q : List (List ℕ)) → IsAtOrUnder q z.origin → cut_of z q ≡ None → cut_of z z.origin ≡ None
origin_uncut z q u free = ⊎_elim (λ e. e) (λ x. absurd (let e = cut_kept z q z.origin x.0 u x.1 in cc)) (some_or_none (cut_of z z.origin))

origin_exists : (z : Zone) (q : List (List ℕ)) (soa : Record) → HasSoaAtOrigin z → denial_of z ≡ Some soa → IsAtOrUnder q z.origin → cut_of z q ≡ None → exists z z.origin ≡ true
origin_exists z q soa there h u free =
    let m = soa_of z soa h in
    let e : m.it.owner ≡ z.origin = there m.it m.stands m.kind in
    exists_plain z z.origin (origin_uncut z q u free)
    ∙ any_from (is_beneath_name z.origin) z.records m.it m.stands (is_under_holds m.it.owner z.origin ([], e))

link_step : (z : Zone) (q : List (List ℕ)) (t : ℕ) (soa : Record) (b : Bool) → IsNamed z → HasOneTtl z → IsDenial z soa → z.origin ≢ [] → exists z z.origin ≡ true → IsAtOrUnder q z.origin
    → exists z q ≡ b → (s : List (List ℕ)) × IsSource z q s × Says z s q t (cond b (said soa q t (at q z.records)) (said_wild soa q t (wild z q)))
link_step z q t soa true named one d ne o u e =
    let real : Exists z q = exists_holds z q named e in
    (q, inl (real, refl), own_says z q q t soa one (inl real) d)
link_step z q t soa false named one d ne o u e =
    let none : Exists z q → ⊥ = λ x. both_ways (exists z q) e (exists_is z q x) in
    let c = closest_some z q z.origin ne o u in (
      star ∷ c.0,
      inr (none, (c.0, closest_holds z q c.0 named c.1, refl)),
      subst (λ (k : Option (List (List ℕ))). Says z (star ∷ c.0) q t (said_wild soa q t (wild_at z k))) (sym c.1) (wild_says z (star ∷ c.0) q t soa (at (star ∷ c.0) z.records) one none d refl),
    )

pub link_law : (z : Zone) (q : List (List ℕ)) (t : ℕ) (soa : Record) → IsNamed z → HasSoaAtOrigin z → HasOneTtl z → denial_of z ≡ Some soa → IsAtOrUnder q z.origin → cut_of z q ≡ None → IsLink z q t (link_by soa z q t)
link_law z q t soa named there one h u free =
    let m = soa_of z soa h in
    let ne : z.origin ≢ [] = λ e. named m.it m.stands (there m.it m.stands m.kind ∙ e) in
    record {
      inside = u;
      uncut = uncut_holds z q named free;
      says = link_step z q t soa (exists z q) named one (denial_is z soa there h) ne (origin_exists z q soa there h u free) u refl;
    }
