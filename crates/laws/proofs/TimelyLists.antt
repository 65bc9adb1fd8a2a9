-- Members and places of lists, and a list that is gone through twice.
use Rattle.std.proofs.Common.{◌≡◌, ℕ, zero, suc, ◌-◌, ◌≤◌, ◌<◌, ◌⊎◌, inl, inr, Some, None, List, [], ◌∷◌, ◌++◌, length, take, slice_get, Contains, sym, ap, ◌∙◌, subst, arith, length-append}
use Rattle.std.proofs.lemmas.Bool.{cases_lt}
use Rattle.std.proofs.lemmas.List.{take_all}
use Rattle.std.proofs.lemmas.List.Elements.{Contains-get_or}
use Rattle.std.proofs.lemmas.Option.{slice_get_within, get_or_from_slice_get, slice_get_cases}
use Rattle.lru.proofs.Splits.{Contains-head, Contains-tail, Contains-cons, Contains-nil}

pub some_is : {X : Type 0} {x y : X} → Some x ≡ Some y → x ≡ y
some_is e = cc

pub some_or_none : {X : Type 0} {x : X} → Some x ≡ None → ⊥
some_or_none e = cc

-- One element more is taken.
pub taken_more : {X : Type 0} (n : ℕ) (xs : List X) (x : X) → Contains (take (suc n) xs) x → Contains (take n xs) x ⊎ (slice_get xs n ≡ Some x)
taken_more n [] x c = absurd (Contains-nil x c)
taken_more zero (y ∷ ys) x c = elim (Contains-cons y [] x c) [ inl is ↦ inr (ap Some is) | inr d ↦ absurd (Contains-nil x d) ]
taken_more (suc n) (y ∷ ys) x c = elim (Contains-cons y (take (suc n) ys) x c) [
  | inl is ↦ inl (subst (Contains (y ∷ take n ys)) is (Contains-head y (take n ys)))
  | inr d ↦ elim (taken_more n ys x d) [ inl e ↦ inl (Contains-tail y (take n ys) x e) | inr e ↦ inr e ]
]

pub taken_whole : {X : Type 0} (n : ℕ) (xs : List X) (x : X) → length xs ≤ n → Contains xs x → Contains (take n xs) x
taken_whole {X} n xs x le c = subst (λ (l : List X). Contains l x) (sym (take_all n xs le)) c

pub none_taken : {X : Type 0} (n : ℕ) (xs : List X) (x : X) → n ≡ 0 → Contains (take n xs) x → ⊥
none_taken {X} n xs x e c = Contains-nil x (subst (λ (k : ℕ). Contains (take k xs) x) e c)

pub got_member : {X : Type 0} (xs : List X) (i : ℕ) (x : X) → slice_get xs i ≡ Some x → Contains xs x
got_member xs i x is = subst (Contains xs) (get_or_from_slice_get xs i x x is) (Contains-get_or xs i x (slice_get_within xs i x is))

pub none_past : {X : Type 0} (xs : List X) (i : ℕ) → slice_get xs i ≡ None → length xs ≤ i
none_past xs i e = elim ((slice_get_cases xs i).1) [
  | inl h ↦ absurd (some_or_none (sym h.2 ∙ e))
  | inr h ↦ h.0
]

get_left : {X : Type 0} (xs ys : List X) (i : ℕ) (x : X) → slice_get xs i ≡ Some x → slice_get (xs ++ ys) i ≡ Some x
get_left [] ys i x e = absurd (some_or_none (sym e))
get_left (z ∷ zs) ys zero x e = e
get_left (z ∷ zs) ys (suc i) x e = get_left zs ys i x e

get_right : {X : Type 0} (xs ys : List X) (i : ℕ) (x : X) → length xs ≤ i → slice_get ys (i - length xs) ≡ Some x → slice_get (xs ++ ys) i ≡ Some x
get_right [] ys i x le e = let same : i - 0 ≡ i = omega arith in subst (λ (k : ℕ). slice_get ys k ≡ Some x) same e
get_right (z ∷ zs) ys zero x le e = absurd (omega arith)
get_right (z ∷ zs) ys (suc i) x le e =
    let same : suc i - suc (length zs) ≡ i - length zs = omega arith in
    get_right zs ys i x (omega arith) (subst (λ (k : ℕ). slice_get ys k ≡ Some x) same e)

-- Of a list that is gone through twice so many steps are done: these were met once, and these twice.
pub record Followed {X : Type 0} (Once Again : X → Type 0) (order : List X) (done : ℕ) : Type 0 where
  pub once : (a : X) → Contains (take done order) a → Once a
  pub again : (a : X) → Contains (take (done - length order) order) a → Again a

pub none_followed : {X : Type 0} (Once Again : X → Type 0) (order : List X) → Followed Once Again order 0
none_followed Once Again order = record {
  once = λ a c. absurd (Contains-nil a c);
  again = λ a c. let none : 0 - length order ≡ 0 = omega arith in absurd (none_taken (0 - length order) order a none c);
}

pub wider_followed : {X : Type 0} (O A P B : X → Type 0) (order : List X) (n : ℕ) → ((a : X) → O a → P a) → ((a : X) → A a → B a) → Followed O A order n → Followed P B order n
wider_followed O A P B order n f g h = record { once = λ a c. f a (h.once a c); again = λ a c. g a (h.again a c) }

-- One step more, at the element whose turn it is.
module _ {X : Type 0} (O A P B : X → Type 0) (order : List X) (done : ℕ) (x : X) (turn : slice_get (order ++ order) done ≡ Some x)
    (first : (a : X) → O a → P a) (second : (a : X) → A a → B a) (now : P x) (repeated : O x → B x) (h : Followed O A order done) where
  once_more : (a : X) → Contains (take (suc done) order) a → P a
  once_more a c = elim (taken_more done order a c) [
    | inl d ↦ first a (h.once a d)
    | inr e ↦ subst P (some_is (sym turn ∙ get_left order order done a e)) now
  ]

  twice_more : (a : X) → (done < length order) ⊎ (length order ≤ done) → Contains (take (suc done - length order) order) a → B a
  twice_more a (inl lt) c = let none : suc done - length order ≡ 0 = omega arith in absurd (none_taken (suc done - length order) order a none c)
  twice_more a (inr le) c =
      let next : suc done - length order ≡ suc (done - length order) = omega arith in
      elim (taken_more (done - length order) order a (subst (λ (k : ℕ). Contains (take k order) a) next c)) [
        | inl d ↦ second a (h.again a d)
        | inr e ↦ subst B (some_is (sym turn ∙ get_right order order done a le e)) (repeated (h.once x (subst (Contains (take done order)) (some_is (sym (get_right order order done a le e) ∙ turn)) (taken_whole done order a le (got_member order (done - length order) a e)))))
      ]

  pub more_followed : Followed P B order (suc done)
  more_followed = record { once = once_more; again = λ a c. twice_more a (cases_lt done (length order)) c }

-- Both rounds are over.
pub all_twice : {X : Type 0} (O A : X → Type 0) (order : List X) (done : ℕ) → slice_get (order ++ order) done ≡ None → Followed O A order done → (a : X) → Contains order a → A a
all_twice O A order done none h a c =
    let past = none_past (order ++ order) done none in
    let sum = length-append order order in
    h.again a (taken_whole (done - length order) order a (omega arith) c)
