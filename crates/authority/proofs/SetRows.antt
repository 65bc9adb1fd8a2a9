-- Data of one owner and with one TTL are the set of the records that they stand in.
use Rattle.std.proofs.Common.{◌≡◌, ℕ, ◌+◌, ◌<◌, Bool, true, false, ◌||◌, cond, Option, Some, None, List, [], ◌∷◌, ◌++◌, length, take, get_or, map, filter, find, fold, refl, sym, ◌∙◌, ap, subst, arith, eqb-true}
use Rattle.std.specs.Prelude.{Contains}
use Rattle.std.specs.List.{list_any}
use Rattle.std.proofs.lemmas.Bool.{and_parts}
use Rattle.std.proofs.lemmas.List.{map-append, length-map}
use Rattle.dname.specs.Labels.{star}
use Rattle.dname.specs.Laws.{same_name-exact}
use Rattle.rdata.specs.Data.{Datum, type_of, same_data}
use Rattle.rdata.specs.Gathering.{has_datum, add_datum}
use Rattle.rdata.specs.Kept.{datum}
use Rattle.rdata.specs.Records.{Record}
use Rattle.rdata.specs.Rows.{plain_row, plain_rows}
use Rattle.rdata.specs.declared.data.RData.{RData}
use Rattle.zone.specs.Tree.{has_under}
use Rattle.zone.specs.Zones.{Zone}
use Rattle.zone.specs.declared.tree.Stand.{Stand}
use Rattle.zone.specs.Look.{is_owned, is_type, of_type, at, add_new, firsts, with_owner}
use Rattle.zone.specs.Ruled.{HasOneTtl}
use Rattle.zone.proofs.LawLists.{first_in, later_in, filter_of, find_of}
use Rattle.authority.specs.Climb.{is_picked}
use Rattle.zone.specs.Values.{add_value, values_of}
use Rattle.authority.specs.Values.{AreTimed, AreTimedIn, IsTimed, IsFirst}
use Rattle.authority.specs.Walk.{Stands, near_or, wild_of}
use Rattle.authority.proofs.Picks.{none_picked}

abbrev HaveTtl : ℕ → List Record → Type 0
HaveTtl t rs = (r : Record) → Contains rs r → r.ttl ≡ t

module _ (q : List (List ℕ)) (t : ℕ) where
  row_has : (ds : List Datum) (d : Datum) → list_any (λ (s : Record). same_data s.value d) (map (plain_row q t) ds) ≡ has_datum ds d
  row_has [] d = refl
  row_has (x ∷ ds) d = ap (λ (b : Bool). same_data x d || b) (row_has ds d)

  row_is : (r : Record) → r.ttl ≡ t → plain_row q t r.value ≡ with_owner q r
  row_is r e = λ i. record { owner = q; ttl = sym e i; value = r.value }

  by_test : (ds : List Datum) (d : Datum) (b : Bool) → map (plain_row q t) (cond b ds (ds ++ d ∷ [])) ≡ cond b (map (plain_row q t) ds) (map (plain_row q t) ds ++ plain_row q t d ∷ [])
  by_test ds d true = refl
  by_test ds d false = map-append (plain_row q t) ds (d ∷ [])

  -- One more, where it is new.
  row_added : (ds : List Datum) (r : Record) → r.ttl ≡ t → map (plain_row q t) (add_value ds r) ≡ add_new (map (plain_row q t) ds) (with_owner q r)
  row_added ds r e =
      by_test ds r.value (has_datum ds r.value)
      ∙ (λ i. cond (sym (row_has ds r.value) i) (map (plain_row q t) ds) (map (plain_row q t) ds ++ row_is r e i ∷ []))

  all_rows : (ds : List Datum) (rs : List Record) → HaveTtl t rs → map (plain_row q t) (fold add_value ds rs) ≡ fold add_new (map (plain_row q t) ds) (map (with_owner q) rs)
  all_rows ds [] h = refl
  all_rows ds (r ∷ rs) h =
      all_rows (add_value ds r) rs (λ s k. h s (later_in r s rs k))
      ∙ ap (λ (l : List Record). fold add_new l (map (with_owner q) rs)) (row_added ds r (h r (first_in r rs)))

-- The first that passes is one of them, and there is none only where none passes.
module _ (p : Record → Bool) where
  some_by : (b : Bool) (x f : Record) (rest : Option Record) (xs : List Record) → cond b (Some x) rest ≡ Some f → (rest ≡ Some f → xs ≡ [] → ⊥) → cond b (x ∷ xs) xs ≡ [] → ⊥
  some_by true x f rest xs e k z = cc
  some_by false x f rest xs e k z = k e z

  some_pass : (rs : List Record) (f : Record) → find p rs ≡ Some f → filter p rs ≡ [] → ⊥
  some_pass [] f e z = cc
  some_pass (x ∷ rs) f e z = some_by (p x) x f (find p rs) (filter p rs) e (some_pass rs f) z

  none_by : (b : Bool) (x : Record) (rest : Option Record) (xs : List Record) → cond b (Some x) rest ≡ None → (rest ≡ None → xs ≡ []) → cond b (x ∷ xs) xs ≡ []
  none_by true x rest xs e k = absurd (cc)
  none_by false x rest xs e k = k e

  none_pass : (rs : List Record) → find p rs ≡ None → filter p rs ≡ []
  none_pass [] e = refl
  none_pass (x ∷ rs) e = none_by (p x) x (find p rs) (filter p rs) e (none_pass rs)

  -- No set.
  pub no_set : (q : List (List ℕ)) (rs : List Record) → None ≡ find p rs → [] ≡ firsts (map (with_owner q) (filter p rs))
  no_set q rs e = ap (λ (xs : List Record). firsts (map (with_owner q) xs)) (sym (none_pass rs (sym e)))

  -- The set.
  pub set_is : (q : List (List ℕ)) (rs : List Record) (f : Record) (ds : List Datum) → HaveTtl f.ttl (filter p rs) → ds ≡ values_of (filter p rs)
      → plain_rows q f.ttl ds ≡ firsts (map (with_owner q) (filter p rs))
  set_is q rs f ds h e = ap (map (plain_row q f.ttl)) e ∙ all_rows q f.ttl [] (filter p rs) h

  filled : (q : List (List ℕ)) (t : ℕ) (xs : List Record) (ds : List Datum) → (xs ≡ [] → ⊥) → plain_rows q t ds ≡ firsts (map (with_owner q) xs) → 0 < length ds
  filled q t xs [] h e = absurd (h (none_picked q xs (sym e)))
  filled q t xs (d ∷ ds) h e = omega arith

  pub is_filled : {H : Type 0} (q : List (List ℕ)) (rs : List Record) (f : Record) (vs : List (RData H)) → HaveTtl f.ttl (filter p rs) → Some f ≡ find p rs → map datum vs ≡ values_of (filter p rs) → 0 < length vs
  is_filled q rs f vs h ef e =
      let many : length (map datum vs) ≡ length vs = length-map vs datum in
      let some : 0 < length (map datum vs) = filled q f.ttl (filter p rs) (map datum vs) (some_pass rs f (sym ef)) (set_is q rs f (map datum vs) h e) in
      omega (arith, many, some)

  pub has_data : (q : List (List ℕ)) (rs : List Record) (f : Record) (ds : List Datum) → HaveTtl f.ttl (filter p rs) → Some f ≡ find p rs → ds ≡ values_of (filter p rs) → 0 < length ds
  has_data q rs f ds h ef e = filled q f.ttl (filter p rs) ds (some_pass rs f (sym ef)) (set_is q rs f ds h e)

  -- The same of a set whose owner and TTL are copies.
  pub named_set : (q : List (List ℕ)) (rs : List Record) (f : Record) (o : List (List ℕ)) (t : ℕ) (ds : List Datum) → o ≡ q → t ≡ f.ttl → HaveTtl f.ttl (filter p rs)
      → ds ≡ values_of (filter p rs) → plain_rows o t ds ≡ firsts (map (with_owner q) (filter p rs))
  named_set q rs f o t ds eo et h e = (λ i. plain_rows (eo i) (et i) ds) ∙ set_is q rs f ds h e

pub some_rows : {H : Type 0} (q : List (List ℕ)) (t : ℕ) (vs : List (RData H)) (ds : List Datum) → 0 < length vs → ds ≡ map datum vs → plain_rows q t ds ≡ [] → ⊥
some_rows q t [] ds h e none = omega (arith, h)
some_rows q t (v ∷ vs) [] h e none = cc
some_rows q t (v ∷ vs) (d ∷ ds) h e none = cc

pub rows_some : (q : List (List ℕ)) (t : ℕ) (ds : List Datum) → 0 < length ds → plain_rows q t ds ≡ [] → ⊥
rows_some q t [] h none = omega (arith, h)
rows_some q t (d ∷ ds) h none = cc

-- The record at the place of the first one of a type, and the data of its set.
pub first_is : (p : Record → Bool) (rs : List Record) (i : ℕ) (f : Record) → IsFirst p rs i → f ≡ get_or rs i f → Some f ≡ find p rs
first_is p rs i f first here = ap Some here ∙ sym (first.found f)

pub values_are : (t : ℕ) (rs : List Record) (i : ℕ) (f : Record) (ds : List Datum) → IsFirst (is_type t) rs i → f ≡ get_or rs i f → ((r : Record) → ds ≡ values_of (of_type (type_of (get_or rs i r).value) rs)) → ds ≡ values_of (of_type t rs)
values_are t rs i f ds first here e =
    let passes = (find_of (is_type t) rs f (sym (first_is (is_type t) rs i f first here))).1 in
    e f ∙ ap (λ (n : ℕ). values_of (of_type n rs)) (ap (λ (x : Record). type_of x.value) (sym here) ∙ eqb-true (type_of f.value) t passes)

-- All of a type at a name have the TTL of the first.
pub timed_picked : (n : List (List ℕ)) (t : ℕ) (z : Zone) (f : Record) → HasOneTtl z → Some f ≡ find (is_picked n t) z.records → HaveTtl f.ttl (filter (is_picked n t) z.records)
timed_picked n t z f h e r k =
    let there = filter_of (is_picked n t) z.records r k in
    let first = find_of (is_picked n t) z.records f (sym e) in
    let its = and_parts (is_owned n r) (is_type t r) there.1 in
    let ours = and_parts (is_owned n f) (is_type t f) first.1 in
    h r f there.0 first.0 (same_name-exact r.owner n its.0 ∙ sym (same_name-exact f.owner n ours.0))
    (eqb-true (type_of r.value) t its.1 ∙ sym (eqb-true (type_of f.value) t ours.1))

pub timed_held : (t : ℕ) (rs : List Record) (f : Record) → AreTimed rs → Some f ≡ find (is_type t) rs → HaveTtl f.ttl (filter (is_type t) rs)
timed_held t rs f h e r k =
    let there = filter_of (is_type t) rs r k in
    let first = find_of (is_type t) rs f (sym e) in
    h r f there.0 first.0 (eqb-true (type_of r.value) t there.1 ∙ sym (eqb-true (type_of f.value) t first.1))

-- Records at a name of a zone.
pub timed_at : (n : List (List ℕ)) (z : Zone) (rs : List Record) → HasOneTtl z → rs ≡ at n z.records → AreTimed rs
timed_at n z rs h e r s kr ks et =
    let a = filter_of (is_owned n) z.records r (subst (λ (xs : List Record). Contains xs r) e kr) in
    let b = filter_of (is_owned n) z.records s (subst (λ (xs : List Record). Contains xs s) e ks) in
    h r s a.0 b.0 (same_name-exact r.owner n a.1 ∙ sym (same_name-exact s.owner n b.1)) et

-- What a walk meets.
pub own_timed : {H : Type 0} (n : List (List ℕ)) (z : Zone) (o : Option (Stand H)) → HasOneTtl z → Stands n z.records o → IsTimed o
own_timed n z None h s = tt
own_timed n z (Some d) h s = timed_at n z d.own h s.own

by_node : (b : Bool) (ws : List Record) → AreTimed ws → AreTimedIn (cond b (Some ws) None)
by_node true ws h = h
by_node false ws h = tt

wild_timed : {H : Type 0} (n : List (List ℕ)) (z : Zone) (o : Option (Stand H)) → HasOneTtl z → Stands n z.records o → AreTimedIn (wild_of o)
wild_timed n z o h s =
    subst (λ (w : Option (List Record)). AreTimedIn w) (sym s.wild) (by_node (has_under n z.records) (at (star ∷ n) z.records) (timed_at (star ∷ n) z (at (star ∷ n) z.records) h refl))

near_by : (near w : Option (List Record)) → AreTimedIn near → AreTimedIn w → AreTimedIn (near_or near w)
near_by (Some ws) w h k = h
near_by None w h k = k

pub near_timed : {H : Type 0} (n : List (List ℕ)) (z : Zone) (o : Option (Stand H)) (near new : Option (List Record)) → HasOneTtl z → Stands n z.records o → AreTimedIn near → new ≡ near_or near (wild_of o) → AreTimedIn new
near_timed n z o near new h s k e = subst (λ (w : Option (List Record)). AreTimedIn w) (sym e) (near_by near (wild_of o) k (wild_timed n z o h s))
