-- What the look-up gives beneath a cut is the zone's referral.
use Rattle.std.proofs.Common.{◌≡◌, ℕ, ◌⊎◌, inl, inr, ⊎_elim, true, ◌&&◌, Option, Some, None, List, [], ◌∷◌, refl, sym, ◌∙◌, ap, subst, eqb-true, eq-eqb}
use Rattle.std.specs.Prelude.{Contains}
use Rattle.std.specs.List.{flat_map}
use Rattle.std.proofs.lemmas.Bool.{and_parts, and_from, or_cases, or_left, or_right}
use Rattle.std.proofs.lemmas.List.Elements.{Contains-append_left, Contains-append_right, Contains-append_cases}
use Rattle.dname.specs.Labels.{IsAtOrUnder}
use Rattle.dname.specs.Laws.{same_name-exact, same_name-equal}
use Rattle.rdata.specs.Data.{Datum, Ns, type_of}
use Rattle.rdata.specs.Records.{Record}
use Rattle.zone.specs.Zones.{Zone, At, a_type, aaaa_type, ns_type}
use Rattle.zone.specs.Ruled.{IsNamed, HasSoaAtOrigin, HasOneTtl}
use Rattle.zone.specs.Referrals.{IsGlue, IsReferral, IsLocal}
use Rattle.zone.specs.Look.{is_type, is_owned, at, of_type, cut_of, ns_of, is_address, addresses_of, glue_of, local_of, local_by, denial_of}
use Rattle.zone.proofs.LawLists.{none_in, first_in, later_in, in_cases, filter_of, filter_in}
use Rattle.zone.proofs.LawFirsts.{firsts_of, firsts_has, firsts_distinct, glue_in, glue_has, glue_distinct}
use Rattle.zone.proofs.LawTests.{cut_of_holds}
use Rattle.zone.proofs.LawLink.{at_of, at_in, link_law}

-- Records of one owner and datum are one.
one_stands : (z : Zone) (x y : Record) → HasOneTtl z → Contains z.records x → Contains z.records y → y.owner ≡ x.owner → y.value ≡ x.value → y ≡ x
one_stands z x y one h k eo ev =
    let et : y.ttl ≡ x.ttl = one y x k h eo (ap type_of ev) in
    λ i. record { owner = eo i; ttl = et i; value = ev i }

servers_of : (z : Zone) (c : List (List ℕ)) (r : Record) → Contains (ns_of z c) r → At z c ns_type r
servers_of z c r h = at_of z c ns_type r (firsts_of (of_type ns_type (at c z.records)) r h)

servers_in : (z : Zone) (c : List (List ℕ)) (r : Record) → HasOneTtl z → At z c ns_type r → Contains (ns_of z c) r
servers_in z c r one a =
    let m = firsts_has (of_type ns_type (at c z.records)) r (at_in z c ns_type r a) in
    let b : At z c ns_type m.0 = at_of z c ns_type m.0 (firsts_of (of_type ns_type (at c z.records)) m.0 m.1) in
    subst (λ (w : Record). Contains (ns_of z c) w) (one_stands z r m.0 one a.stands b.stands (b.owner ∙ sym a.owner) m.2) m.1

-- The addresses of one server.
addressed_of : (rs : List Record) (d : Datum) (r : Record) → Contains (addresses_of rs d) r → Contains rs r × (is_address r ≡ true) × (d ≡ Ns r.owner)
addressed_of rs (Ns n) r h =
    let m = filter_of (λ (x : Record). is_owned n x && is_address x) rs r h in
    let p = and_parts (is_owned n r) (is_address r) m.1 in
    (m.0, p.1, ap Ns (sym (same_name-exact r.owner n p.0)))
addressed_of rs _ r h = absurd (none_in r h)

addressed_in : (rs : List Record) (d : Datum) (r : Record) → Contains rs r → is_address r ≡ true → d ≡ Ns r.owner → Contains (addresses_of rs d) r
addressed_in rs d r h a e = subst (λ (x : Datum). Contains (addresses_of rs x) r) (sym e)
    (filter_in (λ (x : Record). is_owned r.owner x && is_address x) rs r h (and_from (is_owned r.owner r) (is_address r) (same_name-equal r.owner r.owner refl) a))

-- The addresses of all servers.
flat_of : (rs ns : List Record) (r : Record) → Contains (flat_map (λ (s : Record). addresses_of rs s.value) ns) r → (s : Record) × Contains ns s × Contains (addresses_of rs s.value) r
flat_of rs [] r h = absurd (none_in r h)
flat_of rs (s ∷ ns) r h = ⊎_elim
    (λ k. (s, first_in s ns, k))
    (λ k. let m = flat_of rs ns r k in (m.0, later_in s m.0 ns m.1, m.2))
    (Contains-append_cases (addresses_of rs s.value) (flat_map (λ (x : Record). addresses_of rs x.value) ns) r h)

flat_in : (rs ns : List Record) (r s : Record) → Contains ns s → Contains (addresses_of rs s.value) r → Contains (flat_map (λ (x : Record). addresses_of rs x.value) ns) r
flat_in rs [] r s h k = absurd (none_in s h)
flat_in rs (n ∷ ns) r s h k = ⊎_elim
    (λ e. Contains-append_left (addresses_of rs n.value) (flat_map (λ (x : Record). addresses_of rs x.value) ns) r (subst (λ (w : Record). Contains (addresses_of rs w.value) r) (sym e) k))
    (λ m. Contains-append_right (addresses_of rs n.value) (flat_map (λ (x : Record). addresses_of rs x.value) ns) r (flat_in rs ns r s m k))
    (in_cases n s ns h)

pub address_kind : (r : Record) → is_address r ≡ true → (type_of r.value ≡ a_type) ⊎ (type_of r.value ≡ aaaa_type)
address_kind r h = ⊎_elim (λ e. inl (eqb-true (type_of r.value) 1 e)) (λ e. inr (eqb-true (type_of r.value) 28 e)) (or_cases (is_type 1 r) (is_type 28 r) h)

pub address_test : (r : Record) → (type_of r.value ≡ a_type) ⊎ (type_of r.value ≡ aaaa_type) → is_address r ≡ true
address_test r h = ⊎_elim (λ e. or_left (is_type 1 r) (is_type 28 r) (eq-eqb (type_of r.value) 1 e)) (λ e. or_right (is_type 1 r) (is_type 28 r) (eq-eqb (type_of r.value) 28 e)) h

flat_glue : (z : Zone) (c : List (List ℕ)) (r : Record) → Contains (flat_map (λ (s : Record). addresses_of z.records s.value) (ns_of z c)) r → IsGlue z c r
flat_glue z c r h =
    let m = flat_of z.records (ns_of z c) r h in
    let a = addressed_of z.records m.0.value r m.2 in
    (a.0, address_kind r a.1, (m.0, servers_of z c m.0 m.1, a.2))

glue_is : (z : Zone) (c : List (List ℕ)) (r : Record) → Contains (glue_of z.records (ns_of z c)) r → IsGlue z c r
glue_is z c r h = flat_glue z c r (glue_in (flat_map (λ (s : Record). addresses_of z.records s.value) (ns_of z c)) r h)

glue_all : (z : Zone) (c : List (List ℕ)) (r : Record) → HasOneTtl z → IsGlue z c r → Contains (glue_of z.records (ns_of z c)) r
glue_all z c r one h =
    let all : List Record = flat_map (λ (s : Record). addresses_of z.records s.value) (ns_of z c) in
    let s : Record = h.2.0 in
    let k : Contains all r = flat_in z.records (ns_of z c) r s (servers_in z c s one h.2.1) (addressed_in z.records s.value r h.0 (address_test r h.1) h.2.2) in
    let m = glue_has all r k in
    let g : IsGlue z c m.0 = flat_glue z c m.0 (glue_in all m.0 m.1) in
    subst (λ (w : Record). Contains (glue_of z.records (ns_of z c)) w) (one_stands z r m.0 one h.0 g.0 m.2 m.3) m.1

pub referral_law : (z : Zone) (q c : List (List ℕ)) → IsNamed z → HasOneTtl z → cut_of z q ≡ Some c → IsReferral z q c (ns_of z c) (glue_of z.records (ns_of z c))
referral_law z q c named one h = record {
  over = cut_of_holds z q c named h;
  named = servers_of z c;
  all_named = λ r a. servers_in z c r one a;
  named_once = firsts_distinct (of_type ns_type (at c z.records));
  glue = glue_is z c;
  all_glue = λ r g. glue_all z c r one g;
  glue_once = glue_distinct (flat_map (λ (s : Record). addresses_of z.records s.value) (ns_of z c));
}

local_step : (z : Zone) (q : List (List ℕ)) (t : ℕ) (soa : Record) (o : Option (List (List ℕ))) → IsNamed z → HasSoaAtOrigin z → HasOneTtl z → denial_of z ≡ Some soa → IsAtOrUnder q z.origin
    → cut_of z q ≡ o → IsLocal z q t (local_of soa z q t o)
local_step z q t soa None named there one h u e = link_law z q t soa named there one h u e
local_step z q t soa (Some c) named there one h u e = referral_law z q c named one e

-- What the look-up gives for a name at or under the origin.
pub local_law : (z : Zone) (q : List (List ℕ)) (t : ℕ) (soa : Record) → IsNamed z → HasSoaAtOrigin z → HasOneTtl z → denial_of z ≡ Some soa → IsAtOrUnder q z.origin → IsLocal z q t (local_by soa z q t)
local_law z q t soa named there one h u = local_step z q t soa (cut_of z q) named there one h u refl
