-- The data of sets that are made once for all answers.
use Rattle.std.proofs.Common.{◌≡◌, ℕ, zero, suc, ◌+◌, ◌<◌, ◌≤◌, Bool, true, false, cond, nat_eq, Option, Some, None, List, [], ◌∷◌, ◌++◌, length, take, filter, fold, get_or, map, refl, sym, ◌∙◌, ap, subst, arith, eqb-true, eq-eqb}
use Rattle.std.specs.Prelude.{Contains, IfSome}
use Rattle.std.specs.Borrow.{Bor}
use Rattle.std.specs.HashMap.{HashMap, get, IsEmpty}
use Rattle.std.specs.Map.{lookup}
use Rattle.std.specs.Option.{option_copied}
use Rattle.std.proofs.lemmas.List.{take_more, length-map, length-append}
use Rattle.dname.specs.Laws.{same_name-exact}
use Rattle.rdata.specs.Data.{Datum, type_of}
use Rattle.rdata.specs.Gathering.{has_datum, add_datum}
use Rattle.rdata.specs.Kept.{datum}
use Rattle.rdata.specs.Records.{Record}
use Rattle.rdata.specs.declared.data.RData.{RData}
use Rattle.zone.specs.Look.{is_owned, is_type, at, of_type}
use Rattle.zone.specs.Tree.{places, picks, AreWithin}
use Rattle.zone.specs.Values.{add_value, values_of, values_with, AreSets, AreSetsAt}
use Rattle.zone.proofs.LawLists.{filter_of, filter_in}
use Rattle.zone.proofs.Trees.{within_at, within_is, picks_at, picks_length, picked_is}

-- A default is not taken within a list.
pub default_unused : {X : Type 0} (xs : List X) (i : ℕ) (a b : X) → i < length xs → get_or xs i a ≡ get_or xs i b
default_unused [] i a b lt = absurd (omega (arith, lt))
default_unused (x ∷ xs) zero a b lt = refl
default_unused (x ∷ xs) (suc i) a b lt = default_unused xs i a b (omega (arith, lt))

-- A picked record is the list's at its place.
pub picked_record : (rs : List Record) (is : List ℕ) (k : ℕ) (r : Record) → AreWithin (length rs) is → k < length is → get_or rs (get_or is k 0) r ≡ get_or (picks rs is) k r
picked_record rs is k r h lt =
    let x : Record = get_or rs (get_or is k 0) r in
    let many : length (picks rs is) ≡ length is = picks_length rs is h in
    picks_at rs is k x h lt (default_unused rs (get_or is k 0) r x (within_at (length rs) is k h lt)) ∙ default_unused (picks rs is) k x r (omega (arith, lt, many))

-- The records at the places of a name are owned by that name.
owner_at : (n : List (List ℕ)) (rs : List Record) (is : List ℕ) (k : ℕ) (r : Record) → is ≡ places (is_owned n) rs → k < length is → (get_or (picks rs is) k r).owner ≡ n
owner_at n rs is k r e lt =
    let many : length (picks rs is) ≡ length is = picks_length rs is (within_is (is_owned n) rs is e) in
    let x : Record = get_or (picks rs is) k r in
    let there : Contains (filter (is_owned n) rs) x = subst (λ (xs : List Record). Contains xs x) (picked_is (is_owned n) rs is e) (k, omega (arith, lt, many), default_unused (picks rs is) k x r (omega (arith, lt, many))) in
    same_name-exact x.owner n (filter_of (is_owned n) rs x there).1

-- What stands at a place of a name are the data of a type among the records of that name.
pub values_there : (n : List (List ℕ)) (rs : List Record) (is : List ℕ) (k : ℕ) (r : Record) → is ≡ places (is_owned n) rs → k < length is
    → values_with (get_or rs (get_or is k 0) r) rs ≡ values_of (of_type (type_of (get_or (picks rs is) k r).value) (picks rs is))
values_there n rs is k r e lt =
    let x : Record = get_or (picks rs is) k r in
    ap (λ (y : Record). values_with y rs) (picked_record rs is k r (within_is (is_owned n) rs is e) lt)
    ∙ (ap (λ (o : List (List ℕ)). values_of (of_type (type_of x.value) (at o rs))) (owner_at n rs is k r e lt)
    ∙ ap (λ (xs : List Record). values_of (of_type (type_of x.value) xs)) (sym (picked_is (is_owned n) rs is e)))

pub sets_at : {S : Type 0} (m : HashMap ℕ (List Datum) S) (n : List (List ℕ)) (rs : List Record) (is : List ℕ) → is ≡ places (is_owned n) rs → AreSets m rs → AreSetsAt m rs is
sets_at m n rs is e h = λ k ds r lt found. h.kept (get_or is k 0) ds r found ∙ values_there n rs is k r e lt

-- A map that has nothing.
nothing_at : {S : Type 0} (m : HashMap ℕ (List Datum) S) (i : ℕ) (ds : List Datum) → IsEmpty m → get nat_eq m i ≡ Some ds → ⊥
nothing_at m i ds none e = let gone : get nat_eq m i ≡ None = ap (lookup (nat_eq i)) none in absurd (cc)

pub no_sets : {S : Type 0} (m : HashMap ℕ (List Datum) S) (rs : List Record) → IsEmpty m → AreSets m rs
no_sets m rs none = record { kept = λ i ds r e. absurd (nothing_at m i ds none e) }

pub no_sets_at : {S : Type 0} (m : HashMap ℕ (List Datum) S) (rs : List Record) (is : List ℕ) → IsEmpty m → AreSetsAt m rs is
no_sets_at m rs is none = λ k ds r lt e. absurd (nothing_at m (get_or is k 0) ds none e)

-- One more.
more_by : {S : Type 0} (m : HashMap ℕ (List Datum) S) (rs : List Record) (i j : ℕ) (new ds : List Datum) (r : Record) (b : Bool) → nat_eq i j ≡ b → AreSets m rs → new ≡ values_with (get_or rs i r) rs
    → cond b (Some new) (get nat_eq m j) ≡ Some ds → ds ≡ values_with (get_or rs j r) rs
more_by m rs i j new ds r true eb h e k =
    let same : new ≡ ds = cc in
    sym same ∙ (e ∙ ap (λ (n : ℕ). values_with (get_or rs n r) rs) (eqb-true i j eb))
more_by m rs i j new ds r false eb h e k = h.kept j ds r k

pub sets_more : {S : Type 0} (m n : HashMap ℕ (List Datum) S) (rs : List Record) (i : ℕ) (new : List Datum) → AreSets m rs → ((r : Record) → new ≡ values_with (get_or rs i r) rs)
    → ((j : ℕ) → get nat_eq n j ≡ cond (nat_eq i j) (Some new) (get nat_eq m j)) → AreSets n rs
sets_more m n rs i new h e updates = record { kept = λ j ds r found. more_by m rs i j new ds r (nat_eq i j) refl h (e r) (sym (updates j) ∙ found) }

-- A set of which there is a record has data.
more_than : (b : Bool) (ds : List Datum) (d : Datum) → length ds ≤ length (cond b ds (ds ++ d ∷ []))
more_than true ds d = omega arith
more_than false ds d = let long = length-append ds (d ∷ []) in omega (arith, long)

grows : (ds : List Datum) (rs : List Record) → length ds ≤ length (fold add_value ds rs)
grows ds [] = omega arith
grows ds (r ∷ rs) = let one = more_than (has_datum ds r.value) ds r.value in let rest = grows (add_value ds r) rs in omega (arith, one, rest)

has_some : (rs : List Record) (r : Record) → Contains rs r → 0 < length (values_of rs)
has_some [] r (k, lt, e) = absurd (omega (arith, lt))
has_some (x ∷ rs) r c = let more = grows (x.value ∷ []) rs in omega (arith, more)

pub set_has_data : {H : Type 0} (rs : List Record) (k t : ℕ) (r : Record) (vs : List (RData H)) → k < length rs → r ≡ get_or rs k r → t ≡ type_of r.value → map datum vs ≡ values_of (of_type t rs) → 0 < length vs
set_has_data rs k t r vs lt here et e =
    let there : Contains (of_type t rs) r = filter_in (is_type t) rs r (k, lt, sym here) (eq-eqb (type_of r.value) t (sym et)) in
    let many : length (map datum vs) ≡ length vs = length-map vs datum in
    let same : length (map datum vs) ≡ length (values_of (of_type t rs)) = ap length e in
    let some = has_some (of_type t rs) r there in
    omega (arith, many, same, some)

-- What is looked up at the place of a picked record.
pub made_is : {S : Type 0} (m : HashMap ℕ (List Datum) S) (rs : List Record) (is : List ℕ) (k : ℕ) (xs : List Record) (o : Option (Bor (List Datum))) → AreSetsAt m rs is → k < length is → picks rs is ≡ xs
    → option_copied o ≡ get nat_eq m (get_or is k 0) → IfSome o (λ v. (r : Record) → v.now ≡ values_of (of_type (type_of (get_or xs k r).value) xs))
made_is m rs is k xs None h lt same e = tt
made_is m rs is k xs (Some v) h lt same e = λ r. h k v.now r lt (sym e) ∙ ap (λ (l : List Record). values_of (of_type (type_of (get_or l k r).value) l)) same
