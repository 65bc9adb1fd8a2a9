-- A list that is copied item by item.
use Rattle.std.proofs.Common.{◌≡◌, ℕ, ◌+◌, ◌<◌, List, [], ◌∷◌, ◌++◌, length, take, get_or, sym, ◌∙◌, ap}
use Rattle.std.proofs.lemmas.List.{take_more}

-- One item more.
pub copied_more : {X : Type 0} (xs old new : List X) (i : ℕ) (x y : X) → i < length xs → old ≡ take i xs → new ≡ old ++ x ∷ [] → x ≡ y → y ≡ get_or xs i y → new ≡ take (i + 1) xs
copied_more {X} xs old new i x y lt eo en ex ey =
    en ∙ (ap (λ (l : List X). l ++ x ∷ []) eo ∙ (ap (λ (z : X). take i xs ++ z ∷ []) (ex ∙ ey) ∙ sym (take_more xs i y lt)))
