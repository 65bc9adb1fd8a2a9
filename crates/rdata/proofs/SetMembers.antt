-- What stands in the set that records make: each of theirs, TTLs aside, and nothing else.
use Rattle.std.proofs.Common.{◌≡◌, ℕ, zero, suc, Bool, true, false, not, cond, ◌⊎◌, inl, inr, ⊎_elim, List, [], ◌∷◌, refl, sym, ◌∙◌, ap, arith}
use Rattle.std.specs.Prelude.{Contains, filter, map}
use Rattle.std.proofs.lemmas.Bool.{and_parts}
use Rattle.dname.specs.Labels.{same_name}
use Rattle.dname.specs.Laws.{same_name-exact}
use Rattle.rdata.specs.Data.{same_data}
use Rattle.rdata.specs.Records.{Record}
use Rattle.rdata.specs.Sets.{is_repeat, once, lowest_ttl, with_ttl, one_set}
use Rattle.rdata.proofs.Exact.{same_data-exact}

none_in : (r : Record) → Contains [] r → ⊥
none_in r h = let e = h.1 in absurd (omega arith)

first_in : (r : Record) (rs : List Record) → Contains (r ∷ rs) r
first_in r rs = (zero, omega arith, refl)

later_in : (r s : Record) (rs : List Record) → Contains rs s → Contains (r ∷ rs) s
later_in r s rs h = (suc h.0, (let e = h.1 in omega arith), h.2)

in_cases : (r s : Record) (rs : List Record) → Contains (r ∷ rs) s → (r ≡ s) ⊎ Contains rs s
in_cases r s rs (zero, lt, e) = inl e
in_cases r s rs (suc k, lt, e) = inr (k, omega arith, e)

-- One record but for the TTL; these records have that one, TTLs aside.
abbrev pub IsLike : Record → Record → Type 0
IsLike r s = (r.owner ≡ s.owner) × (r.value ≡ s.value)

abbrev pub HasLike : List Record → Record → Type 0
HasLike rs r = (s : Record) × Contains rs s × IsLike r s

one_more : (s r : Record) (rs : List Record) → HasLike rs r → HasLike (s ∷ rs) r
one_more s r rs (x, m, e) = (x, later_in s x rs m, e)

at_head : (s r : Record) (rs : List Record) → s ≡ r → HasLike (s ∷ rs) r
at_head s r rs e = (s, first_in s rs, (ap (λ (x : Record). x.owner) (sym e), ap (λ (x : Record). x.value) (sym e)))

-- What a filter leaves was there.
module _ (p : Record → Bool) where
  split_of : (y r : Record) (rs : List Record) (b : Bool) → (Contains (filter p rs) r → Contains rs r) → Contains (cond b (y ∷ filter p rs) (filter p rs)) r → Contains (y ∷ rs) r
  split_of y r rs true k h = ⊎_elim (λ e. (zero, omega arith, e)) (λ m. later_in y r rs (k m)) (in_cases y r (filter p rs) h)
  split_of y r rs false k h = later_in y r rs (k h)

  filter_of : (r : Record) (rs : List Record) → Contains (filter p rs) r → Contains rs r
  filter_of r [] h = absurd (none_in r h)
  filter_of r (y ∷ rs) h = split_of y r rs (p y) (filter_of r rs) h

  split_in : (y r : Record) (rs : List Record) (b : Bool) → p y ≡ b → p r ≡ true → (Contains rs r → Contains (filter p rs) r) → Contains (y ∷ rs) r
      → Contains (cond b (y ∷ filter p rs) (filter p rs)) r
  split_in y r rs true e t k h = ⊎_elim (λ q. (zero, omega arith, q)) (λ m. later_in y r (filter p rs) (k m)) (in_cases y r rs h)
  split_in y r rs false e t k h = ⊎_elim (λ q. absurd (let f = ap p q in cc)) k (in_cases y r rs h)

  filter_in : (r : Record) (rs : List Record) → p r ≡ true → Contains rs r → Contains (filter p rs) r
  filter_in r [] t h = absurd (none_in r h)
  filter_in r (y ∷ rs) t h = split_in y r rs (p y) refl t (filter_in r rs t) h

-- Without repeats.
pub once_of : (rs : List Record) (r : Record) → Contains (once rs) r → Contains rs r
once_of [] r h = h
once_of (y ∷ rs) r h =
    ⊎_elim (λ e. (zero, omega arith, e)) (λ m. later_in y r rs (once_of rs r (filter_of (λ (s : Record). not (is_repeat y s)) r (once rs) m)))
    (in_cases y r (filter (λ (s : Record). not (is_repeat y s)) (once rs)) h)

kept_or_repeat : (y r s : Record) (rs : List Record) (b : Bool) → is_repeat y s ≡ b → Contains (once rs) s → IsLike r s → HasLike (once (y ∷ rs)) r
kept_or_repeat y r s rs true e m l =
    let p = and_parts (same_name y.owner s.owner) (same_data y.value s.value) e in
    let o = same_name-exact y.owner s.owner p.0 in
    let d = same_data-exact y.value s.value p.1 in
    (y, first_in y (filter (λ (x : Record). not (is_repeat y x)) (once rs)), (l.0 ∙ sym o, l.1 ∙ sym d))
kept_or_repeat y r s rs false e m l =
    (s, later_in y s (filter (λ (x : Record). not (is_repeat y x)) (once rs)) (filter_in (λ (x : Record). not (is_repeat y x)) s (once rs) (ap not e) m), l)

pub once_in : (rs : List Record) (r : Record) → Contains rs r → HasLike (once rs) r
once_in [] r h = absurd (none_in r h)
once_in (y ∷ rs) r h =
    ⊎_elim (λ e. at_head y r (filter (λ (s : Record). not (is_repeat y s)) (once rs)) e)
    (λ m. let (s, n, l) = once_in rs r m in kept_or_repeat y r s rs (is_repeat y s) refl n l) (in_cases y r rs h)

-- With one TTL.
pub with_ttl_of : (t : ℕ) (rs : List Record) (r : Record) → Contains (map (with_ttl t) rs) r → HasLike rs r
with_ttl_of t [] r h = absurd (none_in r h)
with_ttl_of t (y ∷ rs) r h =
    ⊎_elim (λ e. (y, first_in y rs, (ap (λ (x : Record). x.owner) (sym e), ap (λ (x : Record). x.value) (sym e)))) (λ m. one_more y r rs (with_ttl_of t rs r m)) (in_cases (with_ttl t y) r (map (with_ttl t) rs) h)

pub with_ttl_in : (t : ℕ) (rs : List Record) (r : Record) → HasLike rs r → HasLike (map (with_ttl t) rs) r
with_ttl_in t [] r (s, m, l) = absurd (none_in s m)
with_ttl_in t (y ∷ rs) r (s, m, l) =
    ⊎_elim (λ e. (with_ttl t y, first_in (with_ttl t y) (map (with_ttl t) rs), (l.0 ∙ ap (λ (x : Record). x.owner) (sym e), l.1 ∙ ap (λ (x : Record). x.value) (sym e))))
    (λ n. one_more (with_ttl t y) r (map (with_ttl t) rs) (with_ttl_in t rs r (s, n, l))) (in_cases y s rs m)

-- What stands in the set is some record, TTLs aside.
pub set_of : (rs : List Record) (r : Record) → Contains (one_set rs) r → HasLike rs r
set_of rs r h = let (s, m, l) = with_ttl_of (lowest_ttl rs) (once rs) r h in (s, once_of rs s m, l)

-- Each record stands in the set, TTLs aside.
pub set_in : (rs : List Record) (r : Record) → Contains rs r → HasLike (one_set rs) r
set_in rs r h = with_ttl_in (lowest_ttl rs) (once rs) r (once_in rs r h)
