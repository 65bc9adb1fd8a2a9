-- Data of one owner and with one TTL, as records.
use Rattle.std.proofs.Common.{◌≡◌, ℕ, ◌+◌, ◌<◌, ◌≤◌, min, List, [], ◌∷◌, ◌++◌, length, take, take_all, get_or, map, refl, sym, ◌∙◌, ap, arith}
use Rattle.std.proofs.lemmas.List.{map-append, length-map, get_or-map}
use Rattle.rdata.specs.Caps.{capped}
use Rattle.rdata.specs.Data.{Datum}
use Rattle.rdata.specs.Kept.{datum}
use Rattle.rdata.specs.Records.{Record, greatest_ttl}
use Rattle.rdata.specs.Rows.{plain_row, plain_rows, row, rows}
use Rattle.rdata.specs.Sets.{lowest_ttl, with_ttl}
use Rattle.rdata.specs.declared.data.RData.{RData}
use Rattle.rdata.proofs.Copies.{copied_more}

-- Data as they are kept, as plain data.
pub of_data : {H : Type 0} (q : List (List ℕ)) (t : ℕ) (xs : List (RData H)) → rows q t xs ≡ plain_rows q t (map datum xs)
of_data q t [] = refl
of_data q t (x ∷ xs) = ap (λ (l : List Record). row q t x ∷ l) (of_data q t xs)

-- One more at the end.
pub data_last : {H : Type 0} (old new : List (RData H)) (y : RData H) (d : Datum) → new ≡ old ++ y ∷ [] → datum y ≡ d → map datum new ≡ map datum old ++ d ∷ []
data_last old new y d en ey = ap (map datum) en ∙ (map-append datum old (y ∷ []) ∙ ap (λ (z : Datum). map datum old ++ z ∷ []) ey)

-- A walk over the records is one over the data.
pub rows_long : (q : List (List ℕ)) (t : ℕ) (ds : List Datum) (i : ℕ) → i < length ds → i < length (plain_rows q t ds)
rows_long q t ds i lt = let many : length (plain_rows q t ds) ≡ length ds = length-map ds (plain_row q t) in omega (arith, lt, many)

pub row_at : (q : List (List ℕ)) (t : ℕ) (ds : List Datum) (i : ℕ) (d : Datum) → i < length ds → d ≡ get_or ds i d → plain_row q t d ≡ get_or (plain_rows q t ds) i (plain_row q t d)
row_at q t ds i d lt at_i = ap (plain_row q t) at_i ∙ sym (get_or-map (plain_row q t) ds i d (plain_row q t d) lt)

pub rows_more : (q : List (List ℕ)) (t : ℕ) (ds : List Datum) (rs old new : List Record) (i : ℕ) (d : Datum) (r : Record) → plain_rows q t ds ≡ rs → i < length ds → old ≡ take i rs
    → new ≡ old ++ r ∷ [] → r ≡ plain_row q t d → d ≡ get_or ds i d → new ≡ take (i + 1) rs
rows_more q t ds rs old new i d r is lt eo en er at_i =
    copied_more (plain_rows q t ds) old new i r (plain_row q t d) (rows_long q t ds i lt) (eo ∙ ap (take i) (sym is)) en er (row_at q t ds i d lt at_i) ∙ ap (take (i + 1)) is

pub rows_whole : (q : List (List ℕ)) (t : ℕ) (ds : List Datum) (rs made : List Record) (i : ℕ) → plain_rows q t ds ≡ rs → length ds ≤ i → made ≡ take i rs → made ≡ rs
rows_whole q t ds rs made i is le e =
    let many : length (plain_rows q t ds) ≡ length ds = length-map ds (plain_row q t) in
    let long : length rs ≤ i = omega (arith, le, many, ap length is) in
    e ∙ take_all i rs long

-- Another TTL.
pub capped_rows : (q : List (List ℕ)) (t most : ℕ) (ds : List Datum) → plain_rows q (min t most) ds ≡ map (capped most) (plain_rows q t ds)
capped_rows q t most [] = refl
capped_rows q t most (d ∷ ds) = ap (λ (l : List Record). plain_row q (min t most) d ∷ l) (capped_rows q t most ds)

pub timed_rows : (q : List (List ℕ)) (t n : ℕ) (ds : List Datum) → plain_rows q n ds ≡ map (with_ttl n) (plain_rows q t ds)
timed_rows q t n [] = refl
timed_rows q t n (d ∷ ds) = ap (λ (l : List Record). plain_row q n d ∷ l) (timed_rows q t n ds)

floor : (q : List (List ℕ)) (t : ℕ) (ds : List Datum) → t ≤ greatest_ttl → t ≤ lowest_ttl (plain_rows q t ds)
floor q t [] le = le
floor q t (d ∷ ds) le = let e = floor q t ds le in omega (arith, e)

pub lowest_row : (q : List (List ℕ)) (t : ℕ) (ds : List Datum) → t ≤ greatest_ttl → 0 < length ds → t ≡ lowest_ttl (plain_rows q t ds)
lowest_row q t [] le some = absurd (omega (arith, some))
lowest_row q t (d ∷ ds) le some = let e = floor q t ds le in omega (arith, e)
