-- What a walk over a list of records adds up of those that it picks.
use Rattle.std.proofs.Common.{◌≡◌, ℕ, ◌+◌, ◌<◌, Bool, true, false, cond, List, [], ◌∷◌, ◌++◌, length, take, filter, fold, get_or, refl, sym, ◌∙◌, ap}
use Rattle.std.proofs.lemmas.List.{take_more}
use Rattle.rdata.specs.Data.{Datum}
use Rattle.rdata.specs.Gathering.{add_datum}
use Rattle.rdata.specs.Records.{Record}
use Rattle.zone.specs.Values.{add_value, values_of}

-- A step of a walk that adds what it picks.
module _ {X : Type 0} (add : X → Record → X) (p : Record → Bool) where
  add_one : (b : Bool) (kept : X) (r : Record) (rest : List Record) → fold add kept (cond b (r ∷ rest) rest) ≡ fold add (cond b (add kept r) kept) rest
  add_one true kept r rest = refl
  add_one false kept r rest = refl

  add_last : (b : Bool) (kept : X) (r : Record) → fold add kept (cond b (r ∷ []) []) ≡ cond b (add kept r) kept
  add_last true kept r = refl
  add_last false kept r = refl

  added_on : (kept : X) (xs : List Record) (r : Record) → fold add kept (filter p (xs ++ r ∷ [])) ≡ cond (p r) (add (fold add kept (filter p xs)) r) (fold add kept (filter p xs))
  added_on kept [] r = add_last (p r) kept r
  added_on kept (x ∷ xs) r =
      add_one (p x) kept x (filter p (xs ++ r ∷ []))
      ∙ (added_on (cond (p x) (add kept x) kept) xs r ∙ ap (λ (l : X). cond (p r) (add l r) l) (sym (add_one (p x) kept x (filter p xs))))

  pub fold_more : (kept : X) (rs : List Record) (old new : X) (i : ℕ) (r : Record) (b : Bool) → i < length rs → r ≡ get_or rs i r → old ≡ fold add kept (filter p (take i rs)) → b ≡ p r
      → new ≡ cond b (add old r) old → new ≡ fold add kept (filter p (take (i + 1) rs))
  fold_more kept rs old new i r b lt at_i eo eb en =
      en ∙ (ap (λ (c : Bool). cond c (add old r) old) eb
      ∙ (ap (λ (l : X). cond (p r) (add l r) l) eo
      ∙ (sym (added_on kept (take i rs) r) ∙ ap (λ (l : List Record). fold add kept (filter p l)) (ap (λ (x : Record). take i rs ++ x ∷ []) at_i ∙ sym (take_more rs i r lt)))))

-- The same of the data of a set.
pub value_more : (p : Record → Bool) (rs : List Record) (old new : List Datum) (i : ℕ) (r : Record) (d : Datum) (b : Bool) → i < length rs → r ≡ get_or rs i r → b ≡ p r → d ≡ r.value
    → old ≡ values_of (filter p (take i rs)) → new ≡ cond b (add_datum old d) old → new ≡ values_of (filter p (take (i + 1) rs))
value_more p rs old new i r d b lt at_i eb ed eo en = fold_more add_value p [] rs old new i r b lt at_i eo eb (en ∙ ap (λ (e : Datum). cond b (add_datum old e) old) ed)
