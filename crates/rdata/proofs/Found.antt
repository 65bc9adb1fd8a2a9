-- Repeats among data: one by one among the first sixteen, by order behind them.
use Rattle.std.proofs.Common.{◌≡◌, ℕ, ◌+◌, ◌<◌, ◌≤◌, Bool, true, false, ◌||◌, not, cond, min, List, [], ◌∷◌, ◌++◌, length, take, take_all, drop, map, refl, sym, ◌∙◌, ap, arith, Bor}
use Rattle.std.proofs.lemmas.List.{take-append-drop, drop-append-le, drop_all, take-map, length-map}
use Rattle.std.proofs.Common.{length-append}
use Rattle.std.specs.Bool.{OnFalse}
use Rattle.std.specs.List.{list_any}
use Rattle.std.specs.Ordering.{is_eq}
use Rattle.std.specs.BTreeSet.{BTreeSet, contains, IsUnchanged}
use Rattle.rdata.specs.Data.{Datum, same_data}
use Rattle.rdata.specs.Gathering.{has_datum, add_datum}
use Rattle.rdata.specs.Kept.{datum}
use Rattle.rdata.specs.Later.{lent_cmp, AreFound}
use Rattle.rdata.specs.Order.{same_kept, kept_cmp_ties}
use Rattle.rdata.specs.declared.data.RData.{RData}
use Rattle.rdata.proofs.SetRows.{data_last}

grouped : (a b c : Bool) → (a || (b || c)) ≡ (a || b || c)
grouped true b c = refl
grouped false b c = refl

swapped : (a b c : Bool) → (a || (b || c)) ≡ (b || (a || c))
swapped true true c = refl
swapped true false c = refl
swapped false true c = refl
swapped false false c = refl

any_append : (xs ys : List Datum) (d : Datum) → has_datum (xs ++ ys) d ≡ (has_datum xs d || has_datum ys d)
any_append [] ys d = refl
any_append (x ∷ xs) ys d = ap (λ (b : Bool). same_data x d || b) (any_append xs ys d) ∙ grouped (same_data x d) (has_datum xs d) (has_datum ys d)

any_last : (xs : List Datum) (d x : Datum) → has_datum (xs ++ d ∷ []) x ≡ (same_data d x || has_datum xs x)
any_last [] d x = refl
any_last (y ∷ xs) d x = ap (λ (b : Bool). same_data y x || b) (any_last xs d x) ∙ swapped (same_data y x) (same_data d x) (has_datum xs x)

parted : (n : ℕ) (ds : List Datum) (d : Datum) → has_datum ds d ≡ (has_datum (take n ds) d || has_datum (drop n ds) d)
parted n ds d = ap (λ (l : List Datum). has_datum l d) (sym (take-append-drop n ds)) ∙ any_append (take n ds) (drop n ds) d

taken : {H : Type 0} (n : ℕ) (xs : List (RData H)) (d : Datum) → has_datum (take n (map datum xs)) d ≡ has_datum (map datum (take n xs)) d
taken n xs d = ap (λ (l : List Datum). has_datum l d) (take-map datum n xs)

-- A test of data as they are kept.
any_data : {H : Type 0} (xs : List (RData H)) (y : RData H) → list_any (λ (k : RData H). same_kept k y) xs ≡ has_datum (map datum xs) (datum y)
any_data [] y = refl
any_data (x ∷ xs) y = ap (λ (b : Bool). same_kept x y || b) (any_data xs y)

-- A repeat of one of the first.
pub among_first : {H : Type 0} (n : ℕ) (xs : List (RData H)) (y : RData H) (b : Bool) → b ≡ list_any (λ (k : RData H). same_kept k y) (take n xs) → b ≡ true → false ≡ not (has_datum (map datum xs) (datum y))
among_first n xs y b h there =
    ap not (sym (parted n (map datum xs) (datum y) ∙ ap (λ (c : Bool). c || has_datum (drop n (map datum xs)) (datum y)) (taken n xs (datum y) ∙ (sym (any_data (take n xs) y) ∙ (sym h ∙ there)))))

-- Few data are all among the first.
pub few_new : {H : Type 0} (n : ℕ) (xs : List (RData H)) (y : RData H) (b : Bool) → n ≡ min (length xs) 16 → length xs < 16 → b ≡ list_any (λ (k : RData H). same_kept k y) (take n xs) → b ≡ false
    → true ≡ not (has_datum (map datum xs) (datum y))
few_new {H} n xs y b e few h none =
    let all : take n xs ≡ xs = take_all n xs (omega arith) in
    ap not (sym (sym (any_data xs y) ∙ (ap (λ (l : List (RData H)). list_any (λ (k : RData H). same_kept k y) l) (sym all) ∙ (sym h ∙ none))))

-- Few data have nothing behind the first.
pub short_found : {H : Type 0} (later : BTreeSet (Bor (RData H))) (xs : List (RData H)) (d : Datum) → length xs < 16 → AreFound later (map datum xs) → AreFound later (map datum xs ++ d ∷ [])
short_found later xs d few h x =
    let many : length (map datum xs) ≡ length xs = length-map xs datum in
    let more : length (map datum xs ++ d ∷ []) ≡ length (map datum xs) + 1 = length-append (map datum xs) (d ∷ []) in
    h x ∙ (ap (λ (l : List Datum). has_datum l (datum x.now)) (drop_all 16 (map datum xs) (omega (arith, many)))
    ∙ ap (λ (l : List Datum). has_datum l (datum x.now)) (sym (drop_all 16 (map datum xs ++ d ∷ []) (omega (arith, many, more)))))

either : (a b : Bool) → cond a true b ≡ (a || b)
either true b = refl
either false b = refl

-- Data as they are looked for.
abbrev pub lent : {X : Type 0} → X → Bor X
lent x = record { ref_ptr = (0, 0); now = x }

pub found_new : {H : Type 0} (old : BTreeSet (Bor (RData H))) (ds : List Datum) (k : Bor (RData H)) (b : Bool) → has_datum (take 16 ds) (datum k.now) ≡ false → AreFound old ds
    → b ≡ not (contains lent_cmp old k) → b ≡ not (has_datum ds (datum k.now))
found_new old ds k b first h added =
    added ∙ ap not (h k ∙ sym (parted 16 ds (datum k.now) ∙ ap (λ (c : Bool). c || has_datum (drop 16 ds) (datum k.now)) first))

-- The first sixteen.
pub first_few : {H : Type 0} (n : ℕ) (xs : List (RData H)) (y : RData H) (b : Bool) → n ≡ min (length xs) 16 → 16 ≤ length xs → b ≡ list_any (λ (k : RData H). same_kept k y) (take n xs) → b ≡ false
    → has_datum (take 16 (map datum xs)) (datum y) ≡ false
first_few n xs y b e long h none =
    let all : 16 ≡ n = omega arith in
    ap (λ (m : ℕ). has_datum (take m (map datum xs)) (datum y)) all ∙ (taken n xs (datum y) ∙ (sym (any_data (take n xs) y) ∙ (sym h ∙ none)))

pub found_more : {H : Type 0} (old new : BTreeSet (Bor (RData H))) (xs : List (RData H)) (k : Bor (RData H)) (b : Bool) → 16 ≤ length xs → AreFound old (map datum xs)
    → ((x : Bor (RData H)) → contains lent_cmp new x ≡ cond (is_eq (lent_cmp k x)) true (contains lent_cmp old x)) → OnFalse b (IsUnchanged old new)
    → AreFound new (cond b (map datum xs ++ datum k.now ∷ []) (map datum xs))
found_more old new xs k true long h updates same x =
    let many : length (map datum xs) ≡ length xs = length-map xs datum in
    updates x ∙ (ap (λ (c : Bool). cond c true (contains lent_cmp old x)) (sym (kept_cmp_ties k.now x.now))
    ∙ (either (same_data (datum k.now) (datum x.now)) (contains lent_cmp old x)
    ∙ (ap (λ (c : Bool). same_data (datum k.now) (datum x.now) || c) (h x)
    ∙ (sym (any_last (drop 16 (map datum xs)) (datum k.now) (datum x.now))
    ∙ ap (λ (l : List Datum). has_datum l (datum x.now)) (sym (drop-append-le 16 (map datum xs) (datum k.now ∷ []) (omega (arith, long, many))))))))
found_more {H} old new xs k false long h updates same x = ap (λ (ks : List (Bor (RData H))). list_any (λ (y : Bor (RData H)). is_eq (lent_cmp x y)) ks) same ∙ h x

-- Nothing yet.
pub none_found : {H : Type 0} (later : BTreeSet (Bor (RData H))) (xs : List (RData H)) → later.keys ≡ [] → xs ≡ [] → AreFound later (map datum xs)
none_found {H} later xs none empty x =
    ap (λ (ks : List (Bor (RData H))). list_any (λ (y : Bor (RData H)). is_eq (lent_cmp x y)) ks) none
    ∙ ap (λ (l : List (RData H)). has_datum (drop 16 (map datum l)) (datum x.now)) (sym empty)

-- One more, where it is new.
untold : (b : Bool) → true ≡ not b → b ≡ false
untold true h = h
untold false h = refl

told : (b : Bool) → false ≡ not b → b ≡ true
told true h = refl
told false h = h

pub put_new : {H : Type 0} (seen old new : List (RData H)) (y : RData H) (d : Datum) (b : Bool) → seen ≡ old → b ≡ not (has_datum (map datum seen) d) → b ≡ true → datum y ≡ d → new ≡ old ++ y ∷ []
    → map datum new ≡ add_datum (map datum old) d
put_new {H} seen old new y d b es eb is ey en =
    let fresh : has_datum (map datum old) d ≡ false = untold (has_datum (map datum old) d) (sym is ∙ (eb ∙ ap (λ (l : List (RData H)). not (has_datum (map datum l) d)) es)) in
    data_last old new y d en ey ∙ ap (λ (c : Bool). cond c (map datum old) (map datum old ++ d ∷ [])) (sym fresh)

pub put_old : {H : Type 0} (seen old : List (RData H)) (d : Datum) (b : Bool) → seen ≡ old → b ≡ not (has_datum (map datum seen) d) → b ≡ false → map datum old ≡ add_datum (map datum old) d
put_old {H} seen old d b es eb none =
    let there : has_datum (map datum old) d ≡ true = told (has_datum (map datum old) d) (sym none ∙ (eb ∙ ap (λ (l : List (RData H)). not (has_datum (map datum l) d)) es)) in
    ap (λ (c : Bool). cond c (map datum old) (map datum old ++ d ∷ [])) (sym there)

pub found_put : {H : Type 0} (later : BTreeSet (Bor (RData H))) (seen old new : List (RData H)) (y : RData H) (d : Datum) (b : Bool) → seen ≡ old
    → AreFound later (cond b (map datum seen ++ d ∷ []) (map datum seen)) → b ≡ true → datum y ≡ d → new ≡ old ++ y ∷ [] → AreFound later (map datum new)
found_put {H} later seen old new y d b es h is ey en x =
    h x ∙ ap (λ (l : List Datum). has_datum (drop 16 l) (datum x.now))
    (ap (λ (c : Bool). cond c (map datum seen ++ d ∷ []) (map datum seen)) is ∙ (ap (λ (l : List (RData H)). map datum l ++ d ∷ []) es ∙ sym (data_last old new y d en ey)))

pub found_kept : {H : Type 0} (later : BTreeSet (Bor (RData H))) (seen old : List (RData H)) (d : Datum) (b : Bool) → seen ≡ old
    → AreFound later (cond b (map datum seen ++ d ∷ []) (map datum seen)) → b ≡ false → AreFound later (map datum old)
found_kept {H} later seen old d b es h none x =
    h x ∙ ap (λ (l : List Datum). has_datum (drop 16 l) (datum x.now))
    (ap (λ (c : Bool). cond c (map datum seen ++ d ∷ []) (map datum seen)) none ∙ ap (λ (l : List (RData H)). map datum l) es)
