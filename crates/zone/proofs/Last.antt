-- What the last record of each key tells of all records.
use Rattle.std.proofs.Common.{◌≡◌, ℕ, zero, suc, ◌+◌, ◌<◌, Bool, true, false, ◌&&◌, ◌||◌, not, nat_eq, ◌⊎◌, inl, inr, Option, Some, None, List, [], ◌∷◌, length, take, get_or, refl, sym, ◌∙◌, ap, arith}
use Rattle.std.specs.Prelude.{Contains, fold, is_some}
use Rattle.std.specs.List.{list_any}
use Rattle.std.proofs.lemmas.Bool.{and_parts, and_from, or_cases, not-true, not_from_false, cases_Bool, both_ways, false_from_ne_true, eqb-true, eqb-false, eq-eqb, ne_eqb}
use Rattle.std.proofs.lemmas.List.Sums.{fold_more}
use Rattle.dname.specs.Labels.{same_name}
use Rattle.dname.specs.Laws.{same_name-exact, same_name-equal, same_name-refl}
use Rattle.rdata.specs.Data.{Datum, Ipv4, Ns, Cname, Soa, Ptr, Mx, Txt, Ipv6, Srv, type_of, same_data}
use Rattle.rdata.specs.Records.{Record, same_set}
use Rattle.zone.specs.Zones.{cname_type}
use Rattle.zone.specs.Look.{is_type, is_owned}
use Rattle.zone.specs.Rules.{clashes, differs}
use Rattle.zone.specs.Last.{kept_after, last_of, cname_target, owner_of, alias_of, last_target, is_beside, SetKey, same_key, set_of, ttl_of, last_ttl, is_other_ttl}
use Rattle.zone.proofs.Members.{here, there, member_cases, no_member, passing, passes, same_tests, any_step}

from_step : {V : Type 0} (b : Bool) (o acc : Option V) (v : V) → kept_after b o acc ≡ Some v → (acc ≡ Some v) ⊎ ((b ≡ true) × (o ≡ Some v))
from_step b None acc v h = inl h
from_step true (Some w) acc v h = inr (refl, h)
from_step false (Some w) acc v h = inl h

keeps_some : {V : Type 0} (b : Bool) (o acc : Option V) → is_some acc ≡ true → is_some (kept_after b o acc) ≡ true
keeps_some b None acc h = h
keeps_some true (Some w) acc h = refl
keeps_some false (Some w) acc h = h

makes_some : {V : Type 0} (b : Bool) (o acc : Option V) → b ≡ true → is_some o ≡ true → is_some (kept_after b o acc) ≡ true
makes_some b None acc e h = cc
makes_some true (Some w) acc e h = refl
makes_some false (Some w) acc e h = cc

value_of : {V : Type 0} (o : Option V) → is_some o ≡ true → (v : V) × (o ≡ Some v)
value_of None h = cc
value_of (Some v) h = (v, refl)

module _ {K V : Type 0} (eq : K → K → Bool) (key : Record → K) (pick : Record → Option V) (q : K) where
  abbrev step : Option V → Record → Option V
  step kept r = kept_after (eq (key r) q) (pick r) kept

  -- What is kept is some record's value.
  pub told : (rs : List Record) (acc : Option V) (v : V) → fold step acc rs ≡ Some v → (acc ≡ Some v) ⊎ ((r : Record) × Contains rs r × (eq (key r) q ≡ true) × (pick r ≡ Some v))
  told [] acc v h = inl h
  told (r ∷ rs) acc v h =
      elim (told rs (step acc r) v h) [
        | inl e ↦ elim (from_step (eq (key r) q) (pick r) acc v e) [ inl a ↦ inl a | inr (b, p) ↦ inr (r, here r rs, b, p) ]
        | inr (s, m, k, p) ↦ inr (s, there r rs s m, k, p)
      ]

  stays : (rs : List Record) (acc : Option V) → is_some acc ≡ true → is_some (fold step acc rs) ≡ true
  stays [] acc h = h
  stays (r ∷ rs) acc h = stays rs (step acc r) (keeps_some (eq (key r) q) (pick r) acc h)

  -- Where a record has a value, some value is kept.
  pub kept : (rs : List Record) (acc : Option V) (r : Record) → Contains rs r → eq (key r) q ≡ true → is_some (pick r) ≡ true → is_some (fold step acc rs) ≡ true
  kept [] acc r m e h = absurd (no_member r m)
  kept (s ∷ rs) acc r m e h =
      elim (member_cases s rs r m) [
        | inl same ↦ stays rs (step acc s) (makes_some (eq (key s) q) (pick s) acc (ap (λ (x : Record). eq (key x) q) same ∙ e) (ap (λ (x : Record). is_some (pick x)) same ∙ h))
        | inr more ↦ kept rs (step acc s) r more e h
      ]

  pub last_step : (rs : List Record) (i : ℕ) (r : Record) (old new : Option V) → i < length rs → r ≡ get_or rs i r → old ≡ last_of eq key pick q (take i rs) → new ≡ kept_after (eq (key r) q) (pick r) old
      → new ≡ last_of eq key pick q (take (i + 1) rs)
  last_step rs i r old new lt er eo en =
      en ∙ (ap (kept_after (eq (key r) q) (pick r)) eo ∙ (ap (λ (x : Record). step (last_of eq key pick q (take i rs)) x) er ∙ sym (fold_more step None rs i r lt)))

-- A record's data where its type says that it is a CNAME, or the same as one.
is_cname : (d : Datum) → nat_eq (type_of d) cname_type ≡ true → (n : List (List ℕ)) × (d ≡ Cname n)
is_cname (Ipv4 a) h = cc
is_cname (Ns n) h = cc
is_cname (Cname n) h = (n, refl)
is_cname (Soa s) h = cc
is_cname (Ptr n) h = cc
is_cname (Mx p n) h = cc
is_cname (Txt ts) h = cc
is_cname (Ipv6 a) h = cc
is_cname (Srv v) h = cc

same_cname : (d : Datum) (n : List (List ℕ)) → same_data d (Cname n) ≡ true → d ≡ Cname n
same_cname (Ipv4 a) n h = cc
same_cname (Ns m) n h = cc
same_cname (Cname m) n h = ap Cname (same_name-exact m n h)
same_cname (Soa s) n h = cc
same_cname (Ptr m) n h = cc
same_cname (Mx p m) n h = cc
same_cname (Txt ts) n h = cc
same_cname (Ipv6 a) n h = cc
same_cname (Srv v) n h = cc

is_target : (d : Datum) (n : List (List ℕ)) → cname_target d ≡ Some n → d ≡ Cname n
is_target (Ipv4 a) n h = cc
is_target (Ns m) n h = cc
is_target (Cname m) n h = cc
is_target (Soa s) n h = cc
is_target (Ptr m) n h = cc
is_target (Mx p m) n h = cc
is_target (Txt ts) n h = cc
is_target (Ipv6 a) n h = cc
is_target (Srv v) n h = cc

-- A CNAME's clash, told by the last CNAME of each owner.
abbrev pub last_clash : List Record → Bool
last_clash rs = list_any (λ (r : Record). is_beside r.value (last_target r.owner rs)) rs

abbrev any_clash : List Record → Bool
any_clash rs = list_any (λ (r : Record). is_type cname_type r && list_any (clashes r) rs) rs

beside_some : (d : Datum) (o : Option (List (List ℕ))) → is_beside d o ≡ true → (n : List (List ℕ)) × (o ≡ Some n) × (same_data d (Cname n) ≡ false)
beside_some d None h = cc
beside_some d (Some n) h = (n, refl, not-true (same_data d (Cname n)) h)

names_apart : (m n : List (List ℕ)) → same_name m n ≡ false → same_name n m ≡ false
names_apart m n h = false_from_ne_true (same_name n m) (λ t. both_ways (same_name m n) h (same_name-equal m n (sym (same_name-exact n m t))))

apart_back : (d : Datum) (n : List (List ℕ)) → same_data d (Cname n) ≡ false → same_data (Cname n) d ≡ false
apart_back (Ipv4 a) n h = refl
apart_back (Ns m) n h = refl
apart_back (Cname m) n h = names_apart m n h
apart_back (Soa s) n h = refl
apart_back (Ptr m) n h = refl
apart_back (Mx p m) n h = refl
apart_back (Txt ts) n h = refl
apart_back (Ipv6 a) n h = refl
apart_back (Srv v) n h = refl

apart_forth : (d : Datum) (n : List (List ℕ)) → same_data (Cname n) d ≡ false → same_data d (Cname n) ≡ false
apart_forth (Ipv4 a) n h = refl
apart_forth (Ns m) n h = refl
apart_forth (Cname m) n h = names_apart n m h
apart_forth (Soa s) n h = refl
apart_forth (Ptr m) n h = refl
apart_forth (Mx p m) n h = refl
apart_forth (Txt ts) n h = refl
apart_forth (Ipv6 a) n h = refl
apart_forth (Srv v) n h = refl

clash_by : (rs : List Record) (c r : Record) (n : List (List ℕ)) → Contains rs c → Contains rs r → c.value ≡ Cname n → c.owner ≡ r.owner → same_data r.value (Cname n) ≡ false → any_clash rs ≡ true
clash_by rs c r n mc mr alias owner apart =
    let other : same_data c.value r.value ≡ false = ap (λ (d : Datum). same_data d r.value) alias ∙ apart_back r.value n apart in
    passes (λ (x : Record). is_type cname_type x && list_any (clashes x) rs) rs c mc
    (and_from (is_type cname_type c) (list_any (clashes c) rs) (ap (λ (d : Datum). nat_eq (type_of d) cname_type) alias)
    (passes (clashes c) rs r mr (and_from (is_owned c.owner r) (not (same_data c.value r.value)) (same_name-equal r.owner c.owner (sym owner)) (not_from_false (same_data c.value r.value) other))))

clash_found : (rs : List Record) → last_clash rs ≡ true → any_clash rs ≡ true
clash_found rs h =
    let (r, m, b) = passing (λ (x : Record). is_beside x.value (last_target x.owner rs)) rs h in
    let (n, e, apart) = beside_some r.value (last_target r.owner rs) b in
    elim (told same_name owner_of alias_of r.owner rs None n e) [
      | inl none ↦ cc
      | inr (c, at, same, alias) ↦ clash_by rs c r n at m (is_target c.value n alias) (same_name-exact c.owner r.owner same) apart
    ]

clash_last : (rs : List Record) → any_clash rs ≡ true → last_clash rs ≡ true
clash_last rs h =
    let (c, m, b) = passing (λ (x : Record). is_type cname_type x && list_any (clashes x) rs) rs h in
    let (k, cl) = and_parts (is_type cname_type c) (list_any (clashes c) rs) b in
    let (t, et) = is_cname c.value k in
    let (s, ms, bs) = passing (clashes c) rs cl in
    let (own, diff) = and_parts (is_owned c.owner s) (not (same_data c.value s.value)) bs in
    let some : is_some (last_target c.owner rs) ≡ true = kept same_name owner_of alias_of c.owner rs None c m (same_name-refl c.owner) (ap (λ (d : Datum). is_some (cname_target d)) et) in
    let (u, eu) = value_of (last_target c.owner rs) some in
    elim (cases_Bool (same_name t u)) [
      | inl equal ↦ passes (λ (x : Record). is_beside x.value (last_target x.owner rs)) rs s ms
          (let alias : c.value ≡ Cname u = et ∙ ap Cname (same_name-exact t u equal) in
          let apart : same_data (Cname u) s.value ≡ false = ap (λ (d : Datum). same_data d s.value) (sym alias) ∙ not-true (same_data c.value s.value) diff in
          let last : last_target s.owner rs ≡ Some u = ap (λ (n : List (List ℕ)). last_target n rs) (same_name-exact s.owner c.owner own) ∙ eu in
          ap (is_beside s.value) last ∙ not_from_false (same_data s.value (Cname u)) (apart_forth s.value u apart))
      | inr other ↦ passes (λ (x : Record). is_beside x.value (last_target x.owner rs)) rs c m
          (ap (is_beside c.value) eu ∙ (ap (λ (d : Datum). not (same_data d (Cname u))) et ∙ not_from_false (same_name t u) other))
    ]

pub last_clash_is : (rs : List Record) → last_clash rs ≡ any_clash rs
last_clash_is rs = same_tests (last_clash rs) (any_clash rs) (clash_found rs) (clash_last rs)

-- TTLs that differ in a set, told by the last record of each set.
abbrev pub last_mixed : List Record → Bool
last_mixed rs = list_any (λ (r : Record). is_other_ttl r.ttl (last_ttl (set_of r) rs)) rs

abbrev any_mixed : List Record → Bool
any_mixed rs = list_any (λ (r : Record). list_any (differs r) rs) rs

other_some : (n : ℕ) (o : Option ℕ) → is_other_ttl n o ≡ true → (m : ℕ) × (o ≡ Some m) × (nat_eq n m ≡ false)
other_some n None h = cc
other_some n (Some m) h = (m, refl, not-true (nat_eq n m) h)

same_keys : (k q : SetKey) → same_key k q ≡ true → k ≡ q
same_keys k q h =
    let (n, t) = and_parts (same_name k.0 q.0) (nat_eq k.1 q.1) h in
    let en : k.0 ≡ q.0 = same_name-exact k.0 q.0 n in
    let et : k.1 ≡ q.1 = eqb-true k.1 q.1 t in
    λ i. (en i, et i)

numbers_apart : (a b : ℕ) → nat_eq a b ≡ false → nat_eq b a ≡ false
numbers_apart a b h = ne_eqb b a (λ e. eqb-false a b h (sym e))

mixed_by : (rs : List Record) (r s : Record) → Contains rs r → Contains rs s → same_set r s ≡ true → nat_eq r.ttl s.ttl ≡ false → any_mixed rs ≡ true
mixed_by rs r s mr ms same apart =
    passes (λ (x : Record). list_any (differs x) rs) rs r mr (passes (differs r) rs s ms (and_from (same_set r s) (not (nat_eq r.ttl s.ttl)) same (not_from_false (nat_eq r.ttl s.ttl) apart)))

mixed_found : (rs : List Record) → last_mixed rs ≡ true → any_mixed rs ≡ true
mixed_found rs h =
    let (r, m, b) = passing (λ (x : Record). is_other_ttl x.ttl (last_ttl (set_of x) rs)) rs h in
    let (n, e, apart) = other_some r.ttl (last_ttl (set_of r) rs) b in
    elim (told same_key set_of ttl_of (set_of r) rs None n e) [
      | inl none ↦ cc
      | inr (c, at, same, ttl) ↦ mixed_by rs c r at m same (let e : c.ttl ≡ n = cc in ap (λ (k : ℕ). nat_eq k r.ttl) e ∙ numbers_apart r.ttl n apart)
    ]

mixed_last : (rs : List Record) → any_mixed rs ≡ true → last_mixed rs ≡ true
mixed_last rs h =
    let (r, m, b) = passing (λ (x : Record). list_any (differs x) rs) rs h in
    let (s, ms, bs) = passing (differs r) rs b in
    let (same, diff) = and_parts (same_set r s) (not (nat_eq r.ttl s.ttl)) bs in
    let apart : nat_eq r.ttl s.ttl ≡ false = not-true (nat_eq r.ttl s.ttl) diff in
    let itself : same_key (set_of s) (set_of s) ≡ true = and_from (same_name s.owner s.owner) (nat_eq (type_of s.value) (type_of s.value)) (same_name-refl s.owner) (eq-eqb (type_of s.value) (type_of s.value) refl) in
    let some : is_some (last_ttl (set_of s) rs) ≡ true = kept same_key set_of ttl_of (set_of s) rs None s ms itself refl in
    let (n, en) = value_of (last_ttl (set_of s) rs) some in
    elim (cases_Bool (nat_eq s.ttl n)) [
      | inl equal ↦ passes (λ (x : Record). is_other_ttl x.ttl (last_ttl (set_of x) rs)) rs r m
          (let last : last_ttl (set_of r) rs ≡ Some n = ap (λ (k : SetKey). last_ttl k rs) (same_keys (set_of r) (set_of s) same) ∙ en in
          ap (is_other_ttl r.ttl) last ∙ not_from_false (nat_eq r.ttl n) (ap (nat_eq r.ttl) (sym (eqb-true s.ttl n equal)) ∙ apart))
      | inr other ↦ passes (λ (x : Record). is_other_ttl x.ttl (last_ttl (set_of x) rs)) rs s ms (ap (is_other_ttl s.ttl) en ∙ not_from_false (nat_eq s.ttl n) other)
    ]

pub last_mixed_is : (rs : List Record) → last_mixed rs ≡ any_mixed rs
last_mixed_is rs = same_tests (last_mixed rs) (any_mixed rs) (mixed_found rs) (mixed_last rs)

-- ---- record by record

in_whole : {X : Type 0} (i : ℕ) (xs : List X) (x : X) → Contains (take i xs) x → Contains xs x
in_whole zero xs x m = absurd (no_member x m)
in_whole (suc i) [] x m = absurd (no_member x m)
in_whole (suc i) (y ∷ ys) x m = elim (member_cases y (take i ys) x m) [ inl e ↦ (0, omega arith, e) | inr k ↦ there y ys x (in_whole i ys x k) ]

own_set : (r : Record) → same_key (set_of r) (set_of r) ≡ true
own_set r = and_from (same_name r.owner r.owner) (nat_eq (type_of r.value) (type_of r.value)) (same_name-refl r.owner) (eq-eqb (type_of r.value) (type_of r.value) refl)

equal_ttl : (n m : ℕ) → is_other_ttl n (Some m) ≡ false → n ≡ m
equal_ttl n m h = elim (cases_Bool (nat_eq n m)) [ inl equal ↦ eqb-true n m equal | inr other ↦ absurd (both_ways (is_other_ttl n (Some m)) h (not_from_false (nat_eq n m) other)) ]

-- A record with another TTL than the last one of its set before it.
pub mixed_early : (rs : List Record) (i : ℕ) (r : Record) (last : Option ℕ) → i < length rs → r ≡ get_or rs i r → last ≡ last_ttl (set_of r) (take i rs)
    → is_other_ttl r.ttl last ≡ true → any_mixed rs ≡ true
mixed_early rs i r last lt er el h =
    let (n, e, apart) = other_some r.ttl last h in
    elim (told same_key set_of ttl_of (set_of r) (take i rs) None n (sym el ∙ e)) [
      | inl none ↦ cc
      | inr (c, at, same, ttl) ↦ mixed_by rs c r (in_whole i rs c at) (i, lt, sym er) same (let e : c.ttl ≡ n = cc in ap (λ (k : ℕ). nat_eq k r.ttl) e ∙ numbers_apart r.ttl n apart)
    ]

-- Where it has none, TTLs differ with it in no set in which they did not differ before.
pub mixed_step : (rs : List Record) (i : ℕ) (r : Record) (last : Option ℕ) → i < length rs → r ≡ get_or rs i r → last ≡ last_ttl (set_of r) (take i rs)
    → is_other_ttl r.ttl last ≡ false → last_mixed (take i rs) ≡ false → last_mixed (take (i + 1) rs) ≡ false
mixed_step rs i r last lt er el same clean =
    let p : Record → Bool = λ x. is_other_ttl x.ttl (last_ttl (set_of x) (take (i + 1) rs)) in
    let now : (x : Record) → kept_after (same_key (set_of r) (set_of x)) (Some r.ttl) (last_ttl (set_of x) (take i rs)) ≡ last_ttl (set_of x) (take (i + 1) rs) =
    λ x. last_step same_key set_of ttl_of (set_of x) rs i r (last_ttl (set_of x) (take i rs)) (kept_after (same_key (set_of r) (set_of x)) (Some r.ttl) (last_ttl (set_of x) (take i rs)))
    lt er refl refl in
    let after : (x : Record) (b : Bool) → same_key (set_of r) (set_of x) ≡ b → p x ≡ true → is_other_ttl x.ttl (kept_after b (Some r.ttl) (last_ttl (set_of x) (take i rs))) ≡ true =
    λ x b e h. ap (λ (t : Bool). is_other_ttl x.ttl (kept_after t (Some r.ttl) (last_ttl (set_of x) (take i rs)))) (sym e) ∙ (ap (is_other_ttl x.ttl) (now x) ∙ h) in
    false_from_ne_true (last_mixed (take (i + 1) rs)) (λ h.
    elim (or_cases (list_any p (take i rs)) (p r) (any_step p rs i r (list_any p (take i rs)) (list_any p (take i rs) || p r) lt er refl refl ∙ h)) [
      | inl before ↦
          let (x, m, b) = passing p (take i rs) before in
          elim (cases_Bool (same_key (set_of r) (set_of x))) [
            | inl equal ↦
                let (n, en) = value_of (last_ttl (set_of x) (take i rs)) (kept same_key set_of ttl_of (set_of x) (take i rs) None x m (own_set x) refl) in
                let other : nat_eq x.ttl r.ttl ≡ false = not-true (nat_eq x.ttl r.ttl) (after x true equal b) in
                let last_is : last ≡ Some n = el ∙ (ap (λ (k : SetKey). last_ttl k (take i rs)) (same_keys (set_of r) (set_of x) equal) ∙ en) in
                let here : r.ttl ≡ n = equal_ttl r.ttl n (ap (is_other_ttl r.ttl) (sym last_is) ∙ same) in
                let there : x.ttl ≡ n = equal_ttl x.ttl n (false_from_ne_true (is_other_ttl x.ttl (Some n)) (λ t.
                both_ways (last_mixed (take i rs)) clean (passes (λ (y : Record). is_other_ttl y.ttl (last_ttl (set_of y) (take i rs))) (take i rs) x m (ap (is_other_ttl x.ttl) en ∙ t)))) in
                both_ways (nat_eq x.ttl r.ttl) other (eq-eqb x.ttl r.ttl (there ∙ sym here))
            | inr other ↦ both_ways (last_mixed (take i rs)) clean (passes (λ (y : Record). is_other_ttl y.ttl (last_ttl (set_of y) (take i rs))) (take i rs) x m (after x false other b))
          ]
      | inr own ↦ both_ways (nat_eq r.ttl r.ttl) (not-true (nat_eq r.ttl r.ttl) (after r true (own_set r) own)) (eq-eqb r.ttl r.ttl refl)
    ])
