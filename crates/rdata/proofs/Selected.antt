-- A walk that takes what is chosen makes the set of what is chosen.
use Rattle.std.proofs.Common.{◌≡◌, ℕ, ◌+◌, ◌<◌, ◌≤◌, Bool, true, false, cond, min, List, [], ◌∷◌, ◌++◌, length, take, take_all, get_or, filter, append-nil, refl, sym, ◌∙◌, ap, arith}
use Rattle.std.proofs.lemmas.List.{take_more}
use Rattle.std.proofs.lemmas.List.Elements.{filter-append}
use Rattle.rdata.specs.Records.{Record, greatest_ttl}
use Rattle.rdata.specs.Sets.{lowest_ttl}
use Rattle.rdata.specs.Gathering.{add_once, gathered}
use Rattle.rdata.proofs.Gathered.{gathered_last}

one_later : (rs : List Record) (i : ℕ) (r : Record) → i < length rs → r ≡ get_or rs i r → take (i + 1) rs ≡ take i rs ++ r ∷ []
one_later rs i r lt at_i = take_more rs i r lt ∙ ap (λ (x : Record). take i rs ++ x ∷ []) (sym at_i)

-- The lowest TTL.
lowest_later : (xs : List Record) (r : Record) → lowest_ttl (xs ++ r ∷ []) ≡ min r.ttl (lowest_ttl xs)
lowest_later [] r = refl
lowest_later (x ∷ xs) r = let e = lowest_later xs r in omega (arith, e)

pub lowest_step : (rs : List Record) (old new i : ℕ) (r : Record) → i < length rs → r ≡ get_or rs i r → old ≡ lowest_ttl (take i rs) → new ≡ min r.ttl old → new ≡ lowest_ttl (take (i + 1) rs)
lowest_step rs old new i r lt at_i eo en =
    en ∙ (ap (λ n. min r.ttl n) eo ∙ (sym (lowest_later (take i rs) r) ∙ ap lowest_ttl (sym (one_later rs i r lt at_i))))

module _ (p : Record → Bool) where
  filter_later : (xs : List Record) (r : Record) (b : Bool) → b ≡ p r → filter p (xs ++ r ∷ []) ≡ cond b (filter p xs ++ r ∷ []) (filter p xs)
  filter_later xs r true e = filter-append p xs (r ∷ []) ∙ ap (λ (c : Bool). filter p xs ++ cond c (r ∷ []) []) (sym e)
  filter_later xs r false e = filter-append p xs (r ∷ []) ∙ (ap (λ (c : Bool). filter p xs ++ cond c (r ∷ []) []) (sym e) ∙ append-nil (filter p xs))

  by_choice : (t : ℕ) (xs : List Record) (r : Record) (b : Bool) → cond b (add_once t (gathered t xs) r) (gathered t xs) ≡ gathered t (cond b (xs ++ r ∷ []) xs)
  by_choice t xs r true = sym (gathered_last t xs r)
  by_choice t xs r false = refl

  -- A step of the walk.
  pub chosen_more : (t : ℕ) (rs old new : List Record) (i : ℕ) (r : Record) (b : Bool) → i < length rs → r ≡ get_or rs i r → b ≡ p r → old ≡ gathered t (filter p (take i rs))
      → new ≡ cond b (add_once t old r) old → new ≡ gathered t (filter p (take (i + 1) rs))
  chosen_more t rs old new i r b lt at_i eb eo en =
      en ∙ (ap (λ (l : List Record). cond b (add_once t l r) l) eo
      ∙ (by_choice t (filter p (take i rs)) r b
      ∙ ap (gathered t) (sym (filter_later (take i rs) r b eb) ∙ ap (filter p) (sym (one_later rs i r lt at_i)))))

  -- A walk that keeps what is chosen, as it is.
  by_keeping : (xs : List Record) (r : Record) (b : Bool) → b ≡ p r → cond b (filter p xs ++ r ∷ []) (filter p xs) ≡ filter p (xs ++ r ∷ [])
  by_keeping xs r b e = sym (filter_later xs r b e)

  pub kept_more : (rs old new : List Record) (i : ℕ) (r : Record) (b : Bool) → i < length rs → r ≡ get_or rs i r → b ≡ p r → old ≡ filter p (take i rs)
      → new ≡ cond b (old ++ r ∷ []) old → new ≡ filter p (take (i + 1) rs)
  kept_more rs old new i r b lt at_i eb eo en =
      en ∙ (ap (λ (l : List Record). cond b (l ++ r ∷ []) l) eo
      ∙ (by_keeping (take i rs) r b eb
      ∙ ap (filter p) (sym (one_later rs i r lt at_i))))

  pub kept_whole : (rs set : List Record) (i : ℕ) → length rs ≤ i → set ≡ filter p (take i rs) → set ≡ filter p rs
  kept_whole rs set i ei es = es ∙ ap (filter p) (take_all i rs ei)

  -- The lowest TTL of what is chosen.
  lowest_choice : (xs : List Record) (r : Record) (b : Bool) → cond b (min r.ttl (lowest_ttl xs)) (lowest_ttl xs) ≡ lowest_ttl (cond b (xs ++ r ∷ []) xs)
  lowest_choice xs r true = sym (lowest_later xs r)
  lowest_choice xs r false = refl

  pub lowest_more : (rs : List Record) (old new i : ℕ) (r : Record) (b : Bool) → i < length rs → r ≡ get_or rs i r → b ≡ p r → old ≡ lowest_ttl (filter p (take i rs))
      → new ≡ cond b (min r.ttl old) old → new ≡ lowest_ttl (filter p (take (i + 1) rs))
  lowest_more rs old new i r b lt at_i eb eo en =
      en ∙ (ap (λ n. cond b (min r.ttl n) n) eo
      ∙ (lowest_choice (filter p (take i rs)) r b
      ∙ ap lowest_ttl (sym (filter_later (take i rs) r b eb) ∙ ap (filter p) (sym (one_later rs i r lt at_i)))))

pub lowest_fits : (rs : List Record) → lowest_ttl rs ≤ greatest_ttl
lowest_fits [] = omega arith
lowest_fits (r ∷ rs) = let e = lowest_fits rs in omega (arith, e)
