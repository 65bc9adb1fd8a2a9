-- Records of a section, chosen as they come.
use Rattle.std.proofs.Common.{◌≡◌, ℕ, zero, suc, ◌+◌, ◌<◌, ◌≤◌, Bool, true, false, ◌&&◌, not, cond, ⊎_elim, List, [], ◌∷◌, ◌++◌, length, take, take_all, drop, get_or, refl, sym, ◌∙◌, ap, subst, arith, append_assoc, length-append}
use Rattle.std.specs.Prelude.{Contains, filter}
use Rattle.std.proofs.lemmas.List.{append-nil, take-append-le, take-append-drop, take_more, length-take, length-map}
use Rattle.std.proofs.lemmas.List.Elements.{filter-append, filter_agree}
use Rattle.dname.specs.Labels.{Name, is_under}
use Rattle.rdata.specs.Records.{Record}
use Rattle.rdata.specs.Sets.{once, one_set, is_repeat, lowest_ttl, with_ttl}
use Rattle.std.specs.List.{list_any}
use Rattle.limits.specs.Limits.{max_glue}
use Rattle.zone.specs.Zones.{a_type}
use Rattle.zone.specs.Look.{is_type}
use Rattle.zone.proofs.LawLists.{none_in, in_cases, first_in, later_in}
use Rattle.classify.specs.Classes.{names_server, is_taken, addresses_of}
use Rattle.classify.specs.Targets.{is_one_of, is_given}

module _ {X : Type 0} (p : X → Bool) where
  -- Those so far, and those that a walk still gives.
  pub chosen_on : (whole front new xs rest : List X) (x : X) → whole ≡ front ++ filter p xs → xs ≡ x ∷ rest → new ≡ front ++ filter p (x ∷ []) → whole ≡ new ++ filter p rest
  chosen_on whole front new xs rest x so_far is put =
      so_far ∙ (ap (λ (ys : List X). front ++ filter p ys) is
      ∙ (ap (λ (ys : List X). front ++ ys) (filter-append p (x ∷ []) rest)
      ∙ (sym (append_assoc front (filter p (x ∷ [])) (filter p rest)) ∙ ap (λ (ys : List X). ys ++ filter p rest) (sym put))))

  pub chosen_all : (whole front xs : List X) → whole ≡ front ++ filter p xs → xs ≡ [] → front ≡ whole
  chosen_all whole front xs so_far none = sym (so_far ∙ (ap (λ (ys : List X). front ++ filter p ys) none ∙ append-nil front))

  again : (x : X) (ys : List X) (b : Bool) → p x ≡ b → filter p ys ≡ ys → filter p (cond b (x ∷ ys) ys) ≡ cond b (x ∷ ys) ys
  again x ys true e h = ap (λ c. cond c (x ∷ filter p ys) (filter p ys)) e ∙ ap (λ (zs : List X). x ∷ zs) h
  again x ys false e h = h

  -- What is chosen is chosen again.
  pub chosen_again : (xs : List X) → filter p (filter p xs) ≡ filter p xs
  chosen_again [] = refl
  chosen_again (x ∷ xs) = again x (filter p xs) (p x) refl (chosen_again xs)

  -- Of those that are chosen the first, so many at most: those so far are not too many.
  one_chosen : (x : X) → length (filter p (x ∷ [])) ≤ 1
  one_chosen x = by (p x)
    where
      by : (b : Bool) → length (cond b (x ∷ []) []) ≤ 1
      by true = omega arith
      by false = omega arith

  pub few_on : (front new : List X) (x : X) (n size : ℕ) → size ≡ length front → size < n → new ≡ front ++ filter p (x ∷ []) → length new ≤ n
  few_on front new x n size long room put = let one = one_chosen x in omega (arith, long, room, ap length put, length-append front (filter p (x ∷ [])), one)

  pub first_full : (whole front xs : List X) (n size : ℕ) → whole ≡ front ++ filter p xs → length front ≤ n → size ≡ length front → n ≤ size → front ≡ take n whole
  first_full whole front xs n size so_far few long full =
      sym (ap (take n) so_far ∙ (take-append-le n front (filter p xs) (omega (arith, long, full)) ∙ take_all n front few))

  pub first_all : (whole front xs : List X) (n : ℕ) → whole ≡ front ++ filter p xs → length front ≤ n → xs ≡ [] → front ≡ take n whole
  first_all whole front xs n so_far few none =
      let all = chosen_all whole front xs so_far none in
      sym (take_all n front few) ∙ ap (take n) all

  -- Of a list that is walked those so far.
  pub kept_more : (xs front new : List X) (x : X) (i : ℕ) → front ≡ filter p (take i xs) → i < length xs → x ≡ get_or xs i x → new ≡ front ++ filter p (x ∷ []) → new ≡ filter p (take (i + 1) xs)
  kept_more xs front new x i so_far less is put =
      let more : take (i + 1) xs ≡ take i xs ++ x ∷ [] = take_more xs i x less ∙ ap (λ y. take i xs ++ y ∷ []) (sym is) in
      put ∙ (ap (λ (ys : List X). ys ++ filter p (x ∷ [])) so_far ∙ (sym (filter-append p (take i xs) (x ∷ [])) ∙ ap (filter p) (sym more)))

  pub kept_full : (xs front : List X) (i n size : ℕ) → front ≡ filter p (take i xs) → length front ≤ n → size ≡ length front → n ≤ size → front ≡ take n (filter p xs)
  kept_full xs front i n size so_far few long full =
      first_full (filter p xs) front (drop i xs) n size
      (ap (filter p) (sym (take-append-drop i xs)) ∙ (filter-append p (take i xs) (drop i xs) ∙ ap (λ (ys : List X). ys ++ filter p (drop i xs)) (sym so_far))) few long full

  pub kept_whole : (xs front : List X) (i n : ℕ) → front ≡ filter p (take i xs) → length front ≤ n → length xs ≤ i → front ≡ take n (filter p xs)
  kept_whole xs front i n so_far few long =
      let all : front ≡ filter p xs = so_far ∙ ap (filter p) (take_all i xs long) in
      sym (take_all n front few) ∙ ap (take n) all

  one_few : (x : X) (ys xs : List X) (b : Bool) → length ys ≤ length xs → length (cond b (x ∷ ys) ys) ≤ length (x ∷ xs)
  one_few x ys xs true few = omega (arith, few)
  one_few x ys xs false few = omega (arith, few)

  pub filter_few : (xs : List X) → length (filter p xs) ≤ length xs
  filter_few [] = omega arith
  filter_few (x ∷ xs) = one_few x (filter p xs) xs (p x) (filter_few xs)

  first_one : (n : ℕ) (x : X) (ys : List X) (b : Bool) → p x ≡ b → filter p (take n ys) ≡ take n ys → filter p (take (suc n) ys) ≡ take (suc n) ys
      → filter p (take (suc n) (cond b (x ∷ ys) ys)) ≡ take (suc n) (cond b (x ∷ ys) ys)
  first_one n x ys true e less same = ap (λ c. cond c (x ∷ filter p (take n ys)) (filter p (take n ys))) e ∙ ap (λ (zs : List X). x ∷ zs) less
  first_one n x ys false e less same = same

  pub first_again : (n : ℕ) (xs : List X) → filter p (take n (filter p xs)) ≡ take n (filter p xs)
  first_again zero xs = refl
  first_again (suc n) [] = refl
  first_again (suc n) (x ∷ xs) = first_one n x (filter p xs) (p x) refl (first_again n xs) (first_again (suc n) xs)

-- The first of a list.
pub taken_in : {X : Type 0} (n : ℕ) (xs : List X) (x : X) → Contains (take n xs) x → Contains xs x
taken_in zero xs x h = absurd (none_in x h)
taken_in (suc n) [] x h = h
taken_in (suc n) (y ∷ xs) x h = ⊎_elim (λ q. subst (λ w. Contains (y ∷ xs) w) q (first_in y xs)) (λ m. later_in y x xs (taken_in n xs x m)) (in_cases y x (take n xs) h)

pub few_taken : {X : Type 0} (n : ℕ) (xs : List X) → length (take n xs) ≤ n
few_taken n xs = omega (arith, length-take n xs)

-- Fewer than so many are all of them.
pub all_taken : {X : Type 0} (n : ℕ) (xs : List X) → length (take n xs) < n → take n xs ≡ xs
all_taken n xs less = take_all n xs (omega (arith, less, length-take n xs))

once_few : (rs : List Record) → length (once rs) ≤ length rs
once_few [] = omega arith
once_few (r ∷ rs) =
    let one = filter_few (λ (s : Record). not (is_repeat r s)) (once rs) in
    let more = once_few rs in
    omega (arith, one, more)

pub set_few : (n : ℕ) (rs : List Record) → length (one_set (take n rs)) ≤ n
set_few n rs = omega (arith, length-map (once (take n rs)) (with_ttl (lowest_ttl (take n rs))), once_few (take n rs), few_taken n rs)

-- Those that are given for the sorted names are those that are taken.
pub all_given : (f : Name) (servers : List Record) (targets : List Name) → ((n : Name) → is_one_of n targets ≡ list_any (λ (s : Record). names_server n s.value) servers)
    → (rs : List Record) → filter (is_given f targets) rs ≡ filter (is_taken f servers) rs
all_given f servers targets named rs =
    filter_agree (is_given f targets) (is_taken f servers) (λ (r : Record). ap (λ (t : Bool). is_type a_type r && is_under r.owner f && t) (named r.owner)) rs

pub given_is_taken : (f : Name) (servers : List Record) (targets : List Name) → ((n : Name) → is_one_of n targets ≡ list_any (λ (s : Record). names_server n s.value) servers)
    → (rs : List Record) → take max_glue (filter (is_given f targets) rs) ≡ addresses_of f servers rs
given_is_taken f servers targets named rs = ap (take max_glue) (all_given f servers targets named rs)
