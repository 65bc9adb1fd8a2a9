-- A walk that keeps what is new makes the set.
use Rattle.std.proofs.Common.{◌≡◌, ℕ, ◌+◌, ◌<◌, ◌≤◌, Bool, true, false, ◌&&◌, ◌||◌, not, cond, List, [], ◌∷◌, ◌++◌, length, take, take_all, get_or, map, filter, fold, append-nil, append_assoc, refl, sym, ◌∙◌, ap}
use Rattle.std.proofs.lemmas.Bool.{and_parts}
use Rattle.std.proofs.lemmas.List.{take_more}
use Rattle.dname.specs.Labels.{same_name}
use Rattle.dname.specs.Laws.{same_name-exact}
use Rattle.rdata.specs.Data.{same_data}
use Rattle.rdata.specs.Records.{Record}
use Rattle.rdata.specs.Sets.{is_repeat, once, lowest_ttl, with_ttl, one_set}
use Rattle.rdata.specs.Gathering.{has, add_once, gathered}
use Rattle.rdata.proofs.Exact.{same_data-exact}

-- A record is a repeat of what its repeat is a repeat of.
repeats_alike : (r s k : Record) → is_repeat r s ≡ true → is_repeat k r ≡ is_repeat k s
repeats_alike r s k h =
    let p = and_parts (same_name r.owner s.owner) (same_data r.value s.value) h in
    let o = same_name-exact r.owner s.owner p.0 in
    let d = same_data-exact r.value s.value p.1 in
    λ i. same_name k.owner (o i) && same_data k.value (d i)

has_alike : (kept : List Record) (r s : Record) → is_repeat r s ≡ true → has kept r ≡ has kept s
has_alike [] r s h = refl
has_alike (k ∷ kept) r s h = let a = repeats_alike r s k h in let b = has_alike kept r s h in λ i. a i || b i

-- One test for two in turn.
meet_by : (p : Record → Bool) (c : Bool) (s : Record) (xs ys : List Record) → xs ≡ filter p ys → cond (c && p s) (s ∷ xs) xs ≡ filter p (cond c (s ∷ ys) ys)
meet_by p true s xs ys e = ap (λ (l : List Record). cond (p s) (s ∷ l) l) e
meet_by p false s xs ys e = e

meet : (p q w : Record → Bool) → ((s : Record) → w s ≡ (q s && p s)) → (xs : List Record) → filter w xs ≡ filter p (filter q xs)
meet p q w h [] = refl
meet p q w h (x ∷ xs) = ap (λ (b : Bool). cond b (x ∷ filter w xs) (filter w xs)) (h x) ∙ meet_by p (q x) x (filter w xs) (filter q xs) (meet p q w h xs)

abbrev is_new : List Record → Record → Bool
is_new kept s = not (has kept s)

abbrev is_other : Record → Record → Bool
is_other r s = not (is_repeat r s)

-- What is not in the set is no repeat of what is.
absorbed_by : (b c : Bool) → (b ≡ true → c ≡ true) → not c ≡ (not b && not c)
absorbed_by true c h = ap not (h refl)
absorbed_by false c h = refl

absorbed : (kept : List Record) (r : Record) → has kept r ≡ true → (s : Record) → is_new kept s ≡ (is_other r s && is_new kept s)
absorbed kept r there s = absorbed_by (is_repeat r s) (has kept s) (λ h. sym (has_alike kept r s h) ∙ there)

-- What is not in the longer set is not in the set and no repeat of the last.
swapped : (a b c : Bool) → (a || (b || c)) ≡ (b || (a || c))
swapped true true c = refl
swapped true false c = refl
swapped false true c = refl
swapped false false c = refl

any_last : (kept : List Record) (t : ℕ) (r s : Record) → has (kept ++ with_ttl t r ∷ []) s ≡ (is_repeat r s || has kept s)
any_last [] t r s = refl
any_last (k ∷ kept) t r s = ap (λ (b : Bool). is_repeat k s || b) (any_last kept t r s) ∙ swapped (is_repeat k s) (is_repeat r s) (has kept s)

not_either : (b c : Bool) → not (b || c) ≡ (not b && not c)
not_either true c = refl
not_either false c = refl

longer : (kept : List Record) (t : ℕ) (r s : Record) → is_new (kept ++ with_ttl t r ∷ []) s ≡ (is_other r s && is_new kept s)
longer kept t r s = ap not (any_last kept t r s) ∙ not_either (is_repeat r s) (has kept s)

-- The set that a walk makes from what it has: that, and what is new.
abbrev with_new : ℕ → List Record → List Record → List Record
with_new t kept rs = kept ++ map (with_ttl t) (filter (is_new kept) (once rs))

step : (t : ℕ) (kept : List Record) (r : Record) (rs : List Record) (b : Bool) → has kept r ≡ b
    → ((kept : List Record) → fold (add_once t) kept rs ≡ with_new t kept rs)
    → fold (add_once t) (cond b kept (kept ++ with_ttl t r ∷ [])) rs ≡ kept ++ map (with_ttl t) (cond (not b) (r ∷ filter (is_new kept) (filter (is_other r) (once rs))) (filter (is_new kept) (filter (is_other r) (once rs))))
step t kept r rs true e ih = ih kept ∙ ap (λ (l : List Record). kept ++ map (with_ttl t) l) (meet (is_new kept) (is_other r) (is_new kept) (absorbed kept r e) (once rs))
step t kept r rs false e ih =
    ih (kept ++ with_ttl t r ∷ [])
    ∙ (ap (λ (l : List Record). (kept ++ with_ttl t r ∷ []) ++ map (with_ttl t) l) (meet (is_new kept) (is_other r) (is_new (kept ++ with_ttl t r ∷ [])) (longer kept t r) (once rs))
    ∙ append_assoc kept (with_ttl t r ∷ []) (map (with_ttl t) (filter (is_new kept) (filter (is_other r) (once rs)))))

walked : (t : ℕ) (kept rs : List Record) → fold (add_once t) kept rs ≡ with_new t kept rs
walked t kept [] = sym (append-nil kept)
walked t kept (r ∷ rs) = step t kept r rs (has kept r) refl (λ k. walked t k rs)

all_new : (rs : List Record) → filter (is_new []) rs ≡ rs
all_new [] = refl
all_new (r ∷ rs) = ap (λ (l : List Record). r ∷ l) (all_new rs)

pub gathered_none : (t : ℕ) → [] ≡ gathered t []
unfolding gathered
gathered_none t = refl

pub gathered_once : (t : ℕ) (rs : List Record) → gathered t rs ≡ map (with_ttl t) (once rs)
unfolding gathered
gathered_once t rs = walked t [] rs ∙ ap (map (with_ttl t)) (all_new (once rs))

-- A step of the walk.
fold_last : (t : ℕ) (kept xs : List Record) (r : Record) → fold (add_once t) kept (xs ++ r ∷ []) ≡ add_once t (fold (add_once t) kept xs) r
fold_last t kept [] r = refl
fold_last t kept (x ∷ xs) r = fold_last t (add_once t kept x) xs r

pub gathered_last : (t : ℕ) (xs : List Record) (r : Record) → gathered t (xs ++ r ∷ []) ≡ add_once t (gathered t xs) r
unfolding gathered
gathered_last t xs r = fold_last t [] xs r

-- One record more of a list that is walked, and its end.
pub kept_more : (t : ℕ) (rs : List Record) (i : ℕ) (r : Record) (old new : List Record) → i < length rs → r ≡ get_or rs i r → old ≡ gathered t (take i rs) → new ≡ add_once t old r
    → new ≡ gathered t (take (i + 1) rs)
kept_more t rs i r old new less is so_far step =
    let more : take (i + 1) rs ≡ take i rs ++ r ∷ [] = take_more rs i r less ∙ ap (λ (y : Record). take i rs ++ y ∷ []) (sym is) in
    step ∙ (ap (λ (l : List Record). add_once t l r) so_far ∙ (sym (gathered_last t (take i rs) r) ∙ ap (gathered t) (sym more)))

pub kept_whole : (t i : ℕ) (rs kept : List Record) → length rs ≤ i → t ≡ lowest_ttl rs → kept ≡ gathered t (take i rs) → kept ≡ one_set rs
kept_whole t i rs kept past least is =
    is ∙ (ap (gathered t) (take_all i rs past) ∙ (gathered_once t rs ∙ ap (λ (n : ℕ). map (with_ttl n) (once rs)) least))
