-- The tests of a zone's records are its rules in words.
use Rattle.std.proofs.Common.{◌≡◌, ◌≢◌, suc, ◌<◌, ℕ, ◌⊎◌, inl, inr, ⊎_elim, Bool, true, false, not, ◌&&◌, ◌||◌, cond, Option, Some, None, List, [], ◌∷◌, ◌++◌, length, refl, sym, ◌∙◌, ap, subst, arith, eqb-true, eq-eqb}
use Rattle.std.specs.Prelude.{Contains, filter, nat_eq}
use Rattle.std.specs.List.{list_any}
use Rattle.std.specs.Cmp.Lexicographic.{bytes_decides}
use Rattle.std.proofs.lemmas.Bool.{and_parts, and_from, or_parts, or_cases, or_right, both_ways, not-true, not-false, not_from_true, false_from_ne_true, true_from_ne_false}
use Rattle.std.proofs.lemmas.List.Elements.{Contains-append_left, Contains-append_right, Contains-append_cases}
use Rattle.dname.specs.Labels.{star, same_name, is_under, IsAtOrUnder, AreLabels}
use Rattle.dname.specs.Laws.{same_name-exact, same_name-equal}
use Rattle.dname.specs.Stars.{is_star, has_star, is_wildcard, has_inner_star as star_inside}
use Rattle.dname.proofs.Under.{under_is, is_under_holds}
use Rattle.rdata.specs.Data.{type_of, same_data}
use Rattle.rdata.specs.Records.{Record, same_set}
use Rattle.rdata.proofs.Exact.{same_data-exact, same_data-refl}
use Rattle.zone.specs.declared.fault.ZoneError.{ZoneError}
use Rattle.zone.specs.declared.fault.ZoneError.TheVariants.{Soa, NoServers, ForeignOwner, CnameClash, MixedTtls, DataAtCut, InnerStar, WildcardAuthority, WildcardBeneathCut}
use Rattle.zone.specs.Zones.{Zone, At, IsCut, IsBeneath, a_type, ns_type, cname_type, soa_type, aaaa_type}
use Rattle.zone.specs.Ruled.{IsNamed, HasOneTtl, IsAnyOf, IsZone}
use Rattle.zone.specs.Look.{is_type, is_owned, of_type, owns, is_cut, is_beneath_cut, is_address}
use Rattle.zone.specs.Rules.{lacks_soa, lacks_servers, has_foreign_owner, clashes, has_cname_clash, differs, has_mixed_ttls, is_out_of_place, has_data_at_cut, has_inner_star, has_wildcard_authority, has_wildcard_beneath_cut}
use Rattle.zone.specs.Faults.{fault_of}
use Rattle.zone.proofs.LawLists.{first_in, later_in, in_cases, any_of, any_from, filter_in}
use Rattle.zone.proofs.LawTests.{is_cut_is, is_cut_holds, plain_holds, plain_is}
use Rattle.zone.proofs.LawReferral.{address_kind, address_test}

-- Where no member passes, and the other way round.
fails : (p : Record → Bool) (xs : List Record) (x : Record) → list_any p xs ≡ false → Contains xs x → p x ≡ false
fails p xs x h m = false_from_ne_true (p x) (λ e. both_ways (list_any p xs) h (any_from p xs x m e))

all_fail : (p : Record → Bool) (xs : List Record) → ((x : Record) → Contains xs x → p x ≡ false) → list_any p xs ≡ false
all_fail p xs h = false_from_ne_true (list_any p xs) (λ e. let m = any_of p xs e in both_ways (p m.0) (h m.0 m.1) m.2)

second_fails : (x y : Bool) → (x && y) ≡ false → x ≡ true → y ≡ false
second_fails true y h e = h
second_fails false y h e = absurd (cc)

not_second : (x y : Bool) → (x && not y) ≡ false → x ≡ true → y ≡ true
not_second x y h e = not-false y (second_fails x (not y) h e)

-- One member alone passes.
record OneAlone (p : Record → Bool) (xs : List Record) : Type 0 where
  front : List Record
  it : Record
  back : List Record
  is : xs ≡ front ++ it ∷ back
  passes : p it ≡ true
  alone : (s : Record) → Contains (front ++ back) s → p s ≡ false

nobody : (p : Record → Bool) (xs : List Record) (s : Record) → length (filter p xs) ≡ 0 → Contains xs s → p s ≡ false
nobody p xs s h m = false_from_ne_true (p s) (λ e. let k = filter_in p xs s m e in let lt : k.0 < length (filter p xs) = k.1 in absurd (omega arith))

one_step : (p : Record → Bool) (x : Record) (xs : List Record) (b : Bool) → p x ≡ b → (length (filter p xs) ≡ 1 → OneAlone p xs) → length (cond b (x ∷ filter p xs) (filter p xs)) ≡ 1 → OneAlone p (x ∷ xs)
one_step p x xs true e k h = record { front = []; it = x; back = xs; is = refl; passes = e; alone = λ s m. nobody p xs s (omega arith) m }
one_step p x xs false e k h =
    let m = k h in
    record {
      front = x ∷ m.front;
      it = m.it;
      back = m.back;
      is = ap (λ (w : List Record). x ∷ w) m.is;
      passes = m.passes;
      alone = λ s n. ⊎_elim (λ q. sym (ap p q) ∙ e) (λ o. m.alone s o) (in_cases x s (m.front ++ m.back) n);
    }

one_alone : (p : Record → Bool) (xs : List Record) → length (filter p xs) ≡ 1 → OneAlone p xs
one_alone p [] h = absurd (omega arith)
one_alone p (x ∷ xs) h = one_step p x xs (p x) refl (one_alone p xs) h

filter_none : (p : Record → Bool) (xs : List Record) → ((s : Record) → Contains xs s → p s ≡ false) → length (filter p xs) ≡ 0
filter_none p [] h = refl
filter_none p (x ∷ xs) h = rw (h x (first_in x xs)) (filter_none p xs (λ s m. h s (later_in x s xs m)))

filter_one : (p : Record → Bool) (front : List Record) (x : Record) (back : List Record) → p x ≡ true → ((s : Record) → Contains (front ++ back) s → p s ≡ false) → length (filter p (front ++ x ∷ back)) ≡ 1
filter_one p [] x back e h = rw e (ap suc (filter_none p back h))
filter_one p (y ∷ front) x back e h = rw (h y (first_in y (front ++ back))) (filter_one p front x back e (λ s m. h s (later_in y s (front ++ back) m)))

-- A record of a type at a name.
owner_of : (z : Zone) (t : ℕ) (n : List (List ℕ)) → owns t n z.records ≡ true → (r : Record) × At z n t r
owner_of z t n h =
    let m = any_of (λ (r : Record). is_owned n r && is_type t r) z.records h in
    let p = and_parts (is_owned n m.0) (is_type t m.0) m.2 in
    (m.0, record { stands = m.1; owner = same_name-exact m.0.owner n p.0; kind = eqb-true (type_of m.0.value) t p.1 })

owned_by : (z : Zone) (t : ℕ) (n : List (List ℕ)) (r : Record) → At z n t r → owns t n z.records ≡ true
owned_by z t n r a = any_from (λ (x : Record). is_owned n x && is_type t x) z.records r a.stands
    (and_from (is_owned n r) (is_type t r) (same_name-equal r.owner n a.owner) (eq-eqb (type_of r.value) t a.kind))

not_type : (t : ℕ) (r : Record) → is_type t r ≡ false → type_of r.value ≢ t
not_type t r h e = both_ways (is_type t r) h (eq-eqb (type_of r.value) t e)

type_not : (t : ℕ) (r : Record) → type_of r.value ≢ t → is_type t r ≡ false
type_not t r n = false_from_ne_true (is_type t r) (λ e. n (eqb-true (type_of r.value) t e))

-- The first rule.
abbrev HasSoa : Zone → Type 0
HasSoa z = (front : List Record) × (r : Record) × (back : List Record) × (z.records ≡ front ++ r ∷ back) × (type_of r.value ≡ soa_type) × (r.owner ≡ z.origin)
    × ((s : Record) → Contains (front ++ back) s → type_of s.value ≢ soa_type)

soa_is : (z : Zone) → lacks_soa z ≡ false → HasSoa z
soa_is z h =
    let p = and_parts (nat_eq (length (of_type soa_type z.records)) 1) (owns soa_type z.origin z.records) (not-false (nat_eq (length (of_type soa_type z.records)) 1 && owns soa_type z.origin z.records) h) in
    let m = one_alone (is_type soa_type) z.records (eqb-true (length (of_type soa_type z.records)) 1 p.0) in
    let o = owner_of z soa_type z.origin p.1 in
    let a : At z z.origin soa_type o.0 = o.1 in
    let k : Contains (m.front ++ m.it ∷ m.back) o.0 = subst (λ (xs : List Record). Contains xs o.0) m.is a.stands in
    let away : Contains (m.front ++ m.back) o.0 → ⊥ = λ n. not_type soa_type o.0 (m.alone o.0 n) a.kind in
    let same : m.it ≡ o.0 =
    ⊎_elim (λ f. absurd (away (Contains-append_left m.front m.back o.0 f)))
    (λ b. ⊎_elim (λ q. q) (λ n. absurd (away (Contains-append_right m.front m.back o.0 n))) (in_cases m.it o.0 m.back b))
    (Contains-append_cases m.front (m.it ∷ m.back) o.0 k) in
    (m.front, m.it, m.back, m.is, eqb-true (type_of m.it.value) soa_type m.passes, ap (λ (w : Record). w.owner) same ∙ a.owner, λ s n. not_type soa_type s (m.alone s n))

soa_holds : (z : Zone) → HasSoa z → lacks_soa z ≡ false
soa_holds z h =
    let stands : Contains z.records h.1 = subst (λ (xs : List Record). Contains xs h.1) (sym h.3) (Contains-append_right h.0 (h.1 ∷ h.2) h.1 (first_in h.1 h.2)) in
    let one : length (of_type soa_type z.records) ≡ 1 =
    ap (λ (xs : List Record). length (of_type soa_type xs)) h.3 ∙ filter_one (is_type soa_type) h.0 h.1 h.2 (eq-eqb (type_of h.1.value) soa_type h.4) (λ s m. type_not soa_type s (h.6 s m)) in
    not_from_true (nat_eq (length (of_type soa_type z.records)) 1 && owns soa_type z.origin z.records)
    (and_from (nat_eq (length (of_type soa_type z.records)) 1) (owns soa_type z.origin z.records) (eq-eqb (length (of_type soa_type z.records)) 1 one)
    (owned_by z soa_type z.origin h.1 (record { stands = stands; owner = h.5; kind = h.4 })))

-- The second and the third.
servers_is : (z : Zone) → lacks_servers z ≡ false → (r : Record) × At z z.origin ns_type r
servers_is z h = owner_of z ns_type z.origin (not-false (owns ns_type z.origin z.records) h)

servers_holds : (z : Zone) → (r : Record) × At z z.origin ns_type r → lacks_servers z ≡ false
servers_holds z h = not_from_true (owns ns_type z.origin z.records) (owned_by z ns_type z.origin h.0 h.1)

inside_is : (z : Zone) → has_foreign_owner z ≡ false → (r : Record) → Contains z.records r → IsAtOrUnder r.owner z.origin
inside_is z h r m = under_is r.owner z.origin (not-false (is_under r.owner z.origin) (fails (λ (x : Record). not (is_under x.owner z.origin)) z.records r h m))

inside_holds : (z : Zone) → ((r : Record) → Contains z.records r → IsAtOrUnder r.owner z.origin) → has_foreign_owner z ≡ false
inside_holds z h = all_fail (λ (x : Record). not (is_under x.owner z.origin)) z.records (λ x m. not_from_true (is_under x.owner z.origin) (is_under_holds x.owner z.origin (h x m)))

-- The fourth.
abbrev Alone : Zone → Type 0
Alone z = (r s : Record) → Contains z.records r → Contains z.records s → r.owner ≡ s.owner → type_of r.value ≡ cname_type → r.value ≡ s.value

alone_is : (z : Zone) → has_cname_clash z ≡ false → Alone z
alone_is z h r s m n o t =
    let p = second_fails (is_type cname_type r) (list_any (clashes r) z.records) (fails (λ (x : Record). is_type cname_type x && list_any (clashes x) z.records) z.records r h m) (eq-eqb (type_of r.value) cname_type t) in
    same_data-exact r.value s.value (not_second (is_owned r.owner s) (same_data r.value s.value) (fails (clashes r) z.records s p n) (same_name-equal s.owner r.owner (sym o)))

alone_holds : (z : Zone) → Alone z → has_cname_clash z ≡ false
alone_holds z h = all_fail (λ (x : Record). is_type cname_type x && list_any (clashes x) z.records) z.records
    (λ r m. false_from_ne_true (is_type cname_type r && list_any (clashes r) z.records) (λ e.
    let p = and_parts (is_type cname_type r) (list_any (clashes r) z.records) e in
    let k = any_of (clashes r) z.records p.1 in
    let q = and_parts (is_owned r.owner k.0) (not (same_data r.value k.0.value)) k.2 in
    let v : r.value ≡ k.0.value = h r k.0 m k.1 (sym (same_name-exact k.0.owner r.owner q.0)) (eqb-true (type_of r.value) cname_type p.0) in
    both_ways (same_data r.value k.0.value) (not-true (same_data r.value k.0.value) q.1) (ap (same_data r.value) (sym v) ∙ same_data-refl r.value)))

-- The fifth.
ttls_is : (z : Zone) → has_mixed_ttls z ≡ false → HasOneTtl z
ttls_is z h r s m n o t =
    let p = fails (λ (x : Record). list_any (differs x) z.records) z.records r h m in
    let q = fails (differs r) z.records s p n in
    eqb-true r.ttl s.ttl (not_second (same_set r s) (nat_eq r.ttl s.ttl) q
    (and_from (same_name r.owner s.owner) (nat_eq (type_of r.value) (type_of s.value)) (same_name-equal r.owner s.owner o) (eq-eqb (type_of r.value) (type_of s.value) t)))

ttls_holds : (z : Zone) → HasOneTtl z → has_mixed_ttls z ≡ false
ttls_holds z h = all_fail (λ (x : Record). list_any (differs x) z.records) z.records (λ r m. all_fail (differs r) z.records (λ s n.
    false_from_ne_true (differs r s) (λ e.
    let p = and_parts (same_set r s) (not (nat_eq r.ttl s.ttl)) e in
    let q = and_parts (same_name r.owner s.owner) (nat_eq (type_of r.value) (type_of s.value)) p.0 in
    both_ways (nat_eq r.ttl s.ttl) (not-true (nat_eq r.ttl s.ttl) p.1)
    (eq-eqb r.ttl s.ttl (h r s m n (same_name-exact r.owner s.owner q.0) (eqb-true (type_of r.value) (type_of s.value) q.1))))))

-- The sixth.
beneath_test : (z : Zone) (o c : List (List ℕ)) → IsNamed z → IsCut z c → IsBeneath o c → is_beneath_cut z o ≡ true
beneath_test z o c named k b = true_from_ne_false (is_beneath_cut z o) (λ f. plain_holds z o named f c k b)

beneath_fails : (z : Zone) (o : List (List ℕ)) → ((c : List (List ℕ)) → IsCut z c → IsBeneath o c → ⊥) → is_beneath_cut z o ≡ true → ⊥
beneath_fails z o h e = both_ways (is_beneath_cut z o) (plain_is z o h) e

abbrev Glue : Zone → Type 0
Glue z = (c : List (List ℕ)) (r : Record) → IsCut z c → Contains z.records r → IsBeneath r.owner c → (type_of r.value ≡ a_type) ⊎ (type_of r.value ≡ aaaa_type)

abbrev AtCuts : Zone → Type 0
AtCuts z = (c : List (List ℕ)) (r : Record) → IsCut z c → Contains z.records r → r.owner ≡ c → IsAnyOf (type_of r.value) ns_type a_type aaaa_type

in_place : (a b c n : Bool) → (not a && (b || (c && not n))) ≡ false → (b ≡ true → a ≡ true) × (c ≡ true → (n ≡ true) ⊎ (a ≡ true))
in_place true b c n h = (λ e. refl, λ e. inr refl)
in_place false true c n h = absurd (cc)
in_place false false true true h = (λ e. absurd (cc), λ e. inl refl)
in_place false false true false h = absurd (cc)
in_place false false false n h = (λ e. absurd (cc), λ e. absurd (cc))

place_test : (z : Zone) (r : Record) → has_data_at_cut z ≡ false → Contains z.records r → is_out_of_place z r ≡ false
place_test z r h m = fails (is_out_of_place z) z.records r h m

glue_is : (z : Zone) → IsNamed z → has_data_at_cut z ≡ false → Glue z
glue_is z named h c r k m b =
    let p = in_place (is_address r) (is_beneath_cut z r.owner) (is_cut z r.owner) (is_type ns_type r) (place_test z r h m) in
    address_kind r (p.0 (beneath_test z r.owner c named k b))

cuts_is : (z : Zone) → has_data_at_cut z ≡ false → AtCuts z
cuts_is z h c r k m o =
    let p = in_place (is_address r) (is_beneath_cut z r.owner) (is_cut z r.owner) (is_type ns_type r) (place_test z r h m) in
    ⊎_elim (λ e. inl (eqb-true (type_of r.value) ns_type e)) (λ e. inr (address_kind r e)) (p.1 (ap (is_cut z) o ∙ is_cut_holds z c k))

out_of_place : (a b c n : Bool) → (b ≡ true → a ≡ true) → (c ≡ true → (n ≡ true) ⊎ (a ≡ true)) → (not a && (b || (c && not n))) ≡ false
out_of_place true b c n f g = refl
out_of_place false true c n f g = absurd (let e = f refl in cc)
out_of_place false false true true f g = refl
out_of_place false false true false f g = ⊎_elim (λ e. absurd (cc)) (λ e. absurd (cc)) (g refl)
out_of_place false false false n f g = refl

not_beneath : (z : Zone) (r : Record) → Glue z → Contains z.records r → is_address r ≡ false → is_beneath_cut z r.owner ≡ true → ⊥
not_beneath z r glue m a e = beneath_fails z r.owner (λ c k b. both_ways (is_address r) a (address_test r (glue c r k m b))) e

data_holds : (z : Zone) → Glue z → AtCuts z → has_data_at_cut z ≡ false
data_holds z glue cuts = all_fail (is_out_of_place z) z.records (λ r m.
    out_of_place (is_address r) (is_beneath_cut z r.owner) (is_cut z r.owner) (is_type ns_type r)
    (λ e. true_from_ne_false (is_address r) (λ a. not_beneath z r glue m a e))
    (λ e. ⊎_elim (λ t. inl (eq-eqb (type_of r.value) ns_type t)) (λ t. inr (address_test r t)) (cuts r.owner r (is_cut_is z r.owner e) m refl)))

-- The seventh.
star_found : (front back : List (List ℕ)) → has_star (front ++ star ∷ back) ≡ true
star_found [] back = refl
star_found (l ∷ front) back = or_right (is_star l) (has_star (front ++ star ∷ back)) (star_found front back)

star_parts : (ls : List (List ℕ)) → has_star ls ≡ true → (front back : List (List ℕ)) × (ls ≡ front ++ star ∷ back)
star_parts [] h = absurd (cc)
star_parts (l ∷ ls) h = ⊎_elim
    (λ e. ([], ls, ap (λ (x : List ℕ). x ∷ ls) ((bytes_decides l star).0 e)))
    (λ e. let m = star_parts ls e in (l ∷ m.0, m.1, ap (λ (x : List (List ℕ)). l ∷ x) m.2))
    (or_cases (is_star l) (has_star ls) h)

abbrev Stars : Zone → Type 0
Stars z = (r : Record) (l : List ℕ) (front back : List (List ℕ)) → Contains z.records r → r.owner ≡ l ∷ (front ++ star ∷ back) → ⊥

stars_is : (z : Zone) → has_inner_star z ≡ false → Stars z
stars_is z h r l front back m o =
    both_ways (star_inside r.owner) (fails (λ (x : Record). star_inside x.owner) z.records r h m) (ap star_inside o ∙ star_found front back)

inner_fails : (o : List (List ℕ)) → ((l : List ℕ) (front back : List (List ℕ)) → o ≡ l ∷ (front ++ star ∷ back) → ⊥) → star_inside o ≡ false
inner_fails [] h = refl
inner_fails (l ∷ ls) h = false_from_ne_true (has_star ls) (λ e. let m = star_parts ls e in h l m.0 m.1 (ap (λ (x : List (List ℕ)). l ∷ x) m.2))

stars_holds : (z : Zone) → Stars z → has_inner_star z ≡ false
stars_holds z h = all_fail (λ (x : Record). star_inside x.owner) z.records (λ r m. inner_fails r.owner (λ l front back e. h r l front back m e))

-- The eighth and the ninth.
wildcard_test : (o n : List (List ℕ)) → o ≡ star ∷ n → is_wildcard o ≡ true
wildcard_test o n e = ap is_wildcard e

wildcard_parts : (o : List (List ℕ)) → is_wildcard o ≡ true → (n : List (List ℕ)) × (o ≡ star ∷ n)
wildcard_parts [] h = absurd (cc)
wildcard_parts (l ∷ ls) h = (ls, ap (λ (x : List ℕ). x ∷ ls) ((bytes_decides l star).0 h))

abbrev StarData : Zone → Type 0
StarData z = (r : Record) (n : List (List ℕ)) → Contains z.records r → r.owner ≡ star ∷ n → (type_of r.value ≢ ns_type) × (type_of r.value ≢ soa_type)

star_data_is : (z : Zone) → has_wildcard_authority z ≡ false → StarData z
star_data_is z h r n m o =
    let p = second_fails (is_wildcard r.owner) (is_type ns_type r || is_type soa_type r)
    (fails (λ (x : Record). is_wildcard x.owner && (is_type ns_type x || is_type soa_type x)) z.records r h m) (wildcard_test r.owner n o) in
    let q = or_parts (is_type ns_type r) (is_type soa_type r) p in
    (not_type ns_type r q.0, not_type soa_type r q.1)

star_data_holds : (z : Zone) → StarData z → has_wildcard_authority z ≡ false
star_data_holds z h = all_fail (λ (x : Record). is_wildcard x.owner && (is_type ns_type x || is_type soa_type x)) z.records (λ r m.
    false_from_ne_true (is_wildcard r.owner && (is_type ns_type r || is_type soa_type r)) (λ e.
    let p = and_parts (is_wildcard r.owner) (is_type ns_type r || is_type soa_type r) e in
    let w = wildcard_parts r.owner p.0 in
    let d = h r w.0 m w.1 in
    ⊎_elim (λ t. d.0 (eqb-true (type_of r.value) ns_type t)) (λ t. d.1 (eqb-true (type_of r.value) soa_type t)) (or_cases (is_type ns_type r) (is_type soa_type r) p.1)))

abbrev StarCuts : Zone → Type 0
StarCuts z = (r : Record) (n c : List (List ℕ)) → Contains z.records r → r.owner ≡ star ∷ n → IsCut z c → IsBeneath r.owner c → ⊥

star_cuts_is : (z : Zone) → IsNamed z → has_wildcard_beneath_cut z ≡ false → StarCuts z
star_cuts_is z named h r n c m o k b =
    both_ways (is_beneath_cut z r.owner)
    (second_fails (is_wildcard r.owner) (is_beneath_cut z r.owner) (fails (λ (x : Record). is_wildcard x.owner && is_beneath_cut z x.owner) z.records r h m) (wildcard_test r.owner n o))
    (beneath_test z r.owner c named k b)

star_cuts_holds : (z : Zone) → StarCuts z → has_wildcard_beneath_cut z ≡ false
star_cuts_holds z h = all_fail (λ (x : Record). is_wildcard x.owner && is_beneath_cut z x.owner) z.records (λ r m.
    false_from_ne_true (is_wildcard r.owner && is_beneath_cut z r.owner) (λ e.
    let p = and_parts (is_wildcard r.owner) (is_beneath_cut z r.owner) e in
    let w = wildcard_parts r.owner p.0 in
    beneath_fails z r.owner (λ c k b. h r w.0 c m w.1 k b) p.1))

-- No refusal.
passed : (b : Bool) (e : ZoneError) (f : Option ZoneError) → cond b (Some e) f ≡ None → (b ≡ false) × (f ≡ None)
passed true e f h = absurd (cc)
passed false e f h = (refl, h)

-- Owners at or under an origin that has a label have one.
inside_named : (z : Zone) → AreLabels z.origin → ((r : Record) → Contains z.records r → IsAtOrUnder r.owner z.origin) → IsNamed z
inside_named z h inside r m e = no_labels z.origin h (over_nothing z.origin (subst (λ (n : List (List ℕ)). IsAtOrUnder n z.origin) e (inside r m)))
  where
    over_nothing : (n : List (List ℕ)) → IsAtOrUnder [] n → n ≡ []
    over_nothing n ([], p) = sym p
    over_nothing n (l ∷ f, p) = absurd (cc)

    no_labels : (n : List (List ℕ)) → AreLabels n → n ≡ [] → ⊥
    no_labels [] k p = k
    no_labels (l ∷ ls) k p = absurd (cc)

pub zone_named : (z : Zone) → AreLabels z.origin → fault_of z ≡ None → IsNamed z
zone_named z labels h =
    let p1 = passed (lacks_soa z) Soa _ h in
    let p2 = passed (lacks_servers z) NoServers _ p1.1 in
    let p3 = passed (has_foreign_owner z) ForeignOwner _ p2.1 in
    inside_named z labels (inside_is z p3.0)

pub zone_is : (z : Zone) → IsNamed z → fault_of z ≡ None → IsZone z
zone_is z named h =
    let p1 = passed (lacks_soa z) Soa _ h in
    let p2 = passed (lacks_servers z) NoServers _ p1.1 in
    let p3 = passed (has_foreign_owner z) ForeignOwner _ p2.1 in
    let p4 = passed (has_cname_clash z) CnameClash _ p3.1 in
    let p5 = passed (has_mixed_ttls z) MixedTtls _ p4.1 in
    let p6 = passed (has_data_at_cut z) DataAtCut _ p5.1 in
    let p7 = passed (has_inner_star z) InnerStar _ p6.1 in
    let p8 = passed (has_wildcard_authority z) WildcardAuthority _ p7.1 in
    let p9 = passed (has_wildcard_beneath_cut z) WildcardBeneathCut None p8.1 in
    record {
      soa = soa_is z p1.0;
      servers = servers_is z p2.0;
      inside = inside_is z p3.0;
      alone = alone_is z p4.0;
      ttls = ttls_is z p5.0;
      glue = glue_is z named p6.0;
      cuts = cuts_is z p6.0;
      stars = stars_is z p7.0;
      star_data = star_data_is z p8.0;
      star_cuts = star_cuts_is z named p9.0;
    }

pub zone_holds : (z : Zone) → IsZone z → fault_of z ≡ None
zone_holds z k =
    rw (
      soa_holds z k.soa,
      servers_holds z k.servers,
      inside_holds z k.inside,
      alone_holds z k.alone,
      ttls_holds z k.ttls,
      data_holds z k.glue k.cuts,
      stars_holds z k.stars,
      star_data_holds z k.star_data,
      star_cuts_holds z k.star_cuts,
    ) refl
