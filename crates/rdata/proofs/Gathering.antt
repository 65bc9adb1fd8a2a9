-- A walk that gathers the data of one owner and type makes their set.
use Rattle.std.proofs.Common.{◌≡◌, ℕ, ◌+◌, ◌<◌, ◌≤◌, Bool, true, false, ◌&&◌, ◌||◌, cond, List, [], ◌∷◌, ◌++◌, length, take, take_all, get_or, map, nat_eq, refl, sym, ◌∙◌, ap, arith}
use Rattle.std.proofs.lemmas.List.{map-append}
use Rattle.std.proofs.lemmas.Bool.{and_parts}
use Rattle.dname.specs.Labels.{same_name}
use Rattle.dname.specs.Laws.{same_name-exact, same_name-refl}
use Rattle.rdata.specs.Data.{Datum, type_of, same_data}
use Rattle.rdata.specs.Gathering.{has, add_once, gathered, has_datum, add_datum}
use Rattle.rdata.specs.Kept.{datum}
use Rattle.rdata.specs.Records.{Record}
use Rattle.rdata.specs.Rows.{plain_row, rows}
use Rattle.rdata.specs.Selected.{is_at, records_at}
use Rattle.rdata.specs.Sets.{once, lowest_ttl, with_ttl, one_set}
use Rattle.rdata.specs.declared.data.RData.{RData}
use Rattle.rdata.proofs.Gathered.{gathered_once, gathered_none}
use Rattle.rdata.proofs.Selected.{chosen_more}
use Rattle.rdata.proofs.SetRows.{of_data}

module _ (q : List (List ℕ)) (t : ℕ) where
  row_has : (ds : List Datum) (r : Record) → r.owner ≡ q → has (map (plain_row q t) ds) r ≡ has_datum ds r.value
  row_has [] r e = refl
  row_has (d ∷ ds) r e =
      let own : same_name q r.owner ≡ true = ap (λ (n : List (List ℕ)). same_name q n) e ∙ same_name-refl q in
      let rest = row_has ds r e in
      λ i. (own i && same_data d r.value) || rest i

  row_is : (r : Record) → r.owner ≡ q → plain_row q t r.value ≡ with_ttl t r
  row_is r e = λ i. record { owner = sym e i; ttl = t; value = r.value }

  by_test : (ds : List Datum) (d : Datum) (b : Bool) → map (plain_row q t) (cond b ds (ds ++ d ∷ [])) ≡ cond b (map (plain_row q t) ds) (map (plain_row q t) ds ++ plain_row q t d ∷ [])
  by_test ds d true = refl
  by_test ds d false = map-append (plain_row q t) ds (d ∷ [])

  -- One more, where it is new.
  row_added : (ds : List Datum) (r : Record) → r.owner ≡ q → map (plain_row q t) (add_datum ds r.value) ≡ add_once t (map (plain_row q t) ds) r
  row_added ds r e =
      by_test ds r.value (has_datum ds r.value)
      ∙ (λ i. cond (sym (row_has ds r e) i) (map (plain_row q t) ds) (map (plain_row q t) ds ++ row_is r e i ∷ []))

  -- And chosen.
  row_chosen : (k : ℕ) (old new : List Datum) (r : Record) (b : Bool) → b ≡ is_at q k r → new ≡ cond b (add_datum old r.value) old
      → map (plain_row q t) new ≡ cond b (add_once t (map (plain_row q t) old) r) (map (plain_row q t) old)
  row_chosen k old new r true eb en =
      let own : r.owner ≡ q = same_name-exact r.owner q (and_parts (same_name r.owner q) (nat_eq (type_of r.value) k) (sym eb)).0 in
      ap (map (plain_row q t)) en ∙ row_added old r own
  row_chosen k old new r false eb en = ap (map (plain_row q t)) en

-- A step of the walk.
pub values_more : {H : Type 0} (q : List (List ℕ)) (k t : ℕ) (rs : List Record) (old new : List (RData H)) (i : ℕ) (r : Record) (d : Datum) (b : Bool) → i < length rs → r ≡ get_or rs i r
    → b ≡ is_at q k r → d ≡ r.value → rows q t old ≡ gathered t (records_at q k (take i rs)) → map datum new ≡ cond b (add_datum (map datum old) d) (map datum old)
    → rows q t new ≡ gathered t (records_at q k (take (i + 1) rs))
values_more q k t rs old new i r d b lt at_i eb ed eo en =
    let step : rows q t new ≡ cond b (add_once t (rows q t old) r) (rows q t old) =
    of_data q t new
    ∙ (row_chosen q t k (map datum old) (map datum new) r b eb (en ∙ ap (λ (e : Datum). cond b (add_datum (map datum old) e) (map datum old)) ed)
    ∙ ap (λ (l : List Record). cond b (add_once t l r) l) (sym (of_data q t old))) in
    chosen_more (is_at q k) t rs (rows q t old) (rows q t new) i r b lt at_i eb eo step

pub values_whole : {H : Type 0} (q : List (List ℕ)) (k t i : ℕ) (rs : List Record) (xs : List (RData H)) → length rs ≤ i → rows q t xs ≡ gathered t (records_at q k (take i rs)) → rows q t xs ≡ gathered t (records_at q k rs)
values_whole q k t i rs xs le e = e ∙ ap (λ (l : List Record). gathered t (records_at q k l)) (take_all i rs le)

pub values_none : {H : Type 0} (q : List (List ℕ)) (t : ℕ) (xs : List (RData H)) → xs ≡ [] → rows q t xs ≡ gathered t []
values_none q t xs e = ap (rows q t) e ∙ gathered_none t

-- The set at its end.
pub set_whole : {H : Type 0} (q : List (List ℕ)) (k t : ℕ) (rs : List Record) (xs : List (RData H)) → t ≡ lowest_ttl (records_at q k rs) → ((n : ℕ) → rows q n xs ≡ gathered n (records_at q k rs))
    → rows q t xs ≡ one_set (records_at q k rs)
set_whole q k t rs xs et h = h t ∙ (gathered_once t (records_at q k rs) ∙ ap (λ (n : ℕ). map (with_ttl n) (once (records_at q k rs))) et)

-- No data, no set.
nothing : {X : Type 0} (xs : List X) → length xs ≡ 0 → xs ≡ []
nothing [] e = refl
nothing (x ∷ xs) e = absurd (omega (arith, e))

pub none_there : {H : Type 0} (q : List (List ℕ)) (k t : ℕ) (rs : List Record) (xs : List (RData H)) → length xs ≡ 0 → t ≡ lowest_ttl (records_at q k rs) → ((n : ℕ) → rows q n xs ≡ gathered n (records_at q k rs))
    → [] ≡ one_set (records_at q k rs)
none_there q k t rs xs none et h = ap (rows q t) (sym (nothing xs none)) ∙ set_whole q k t rs xs et h
