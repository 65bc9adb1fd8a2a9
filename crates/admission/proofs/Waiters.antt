-- The addresses of those that wait.
use Rattle.std.proofs.Common.{◌≡◌, ℕ, zero, suc, ◌+◌, ◌<◌, List, [], ◌∷◌, ◌++◌, map, length, refl, sym, ap, ◌∙◌, arith, append-nil, append_assoc}
use Rattle.std.proofs.lemmas.List.{map-append}
use Rattle.std.specs.List.{count_by, remove}
use Rattle.admission.specs.declared.queries.Held.{Held}
use Rattle.admission.specs.States.{held_from}
use Rattle.admission.specs.Waiting.{address_of, is_address}
use Rattle.admission.proofs.Lists.{one, count-cons}

map_removed : {X Y : Type 0} (f : X → Y) (xs : List X) (i : ℕ) → i < length xs → map f (remove xs i) ≡ remove (map f xs) i
map_removed f [] i l = absurd (omega arith)
map_removed f (x ∷ xs) zero l = refl
map_removed f (x ∷ xs) (suc i) l = ap (λ zs. f x ∷ zs) (map_removed f xs i (omega arith))

module _ {T : Type 0} where
  -- As many are of an address as there are such addresses.
  pub count_mapped : (a : ℕ) (ws : List (Held T)) → count_by (is_address a) (map address_of ws) ≡ count_by (held_from a) ws
  count_mapped a [] = refl
  count_mapped a (w ∷ ws) =
      count-cons (is_address a) (address_of w) (map address_of ws)
      ∙ ap (λ n. one (is_address a (address_of w)) + n) (count_mapped a ws)
      ∙ sym (count-cons (held_from a) w ws)

  -- One more, behind the others.
  pub pushed : (xs ys : List ℕ) (ws vs : List (Held T)) (q : Held T) (a : ℕ) → a ≡ address_of q → ys ≡ xs ++ a ∷ [] → vs ≡ ws ++ q ∷ [] → xs ≡ map address_of ws → ys ≡ map address_of vs
  pushed xs ys ws vs q a is e f same =
      e ∙ ap (λ n. xs ++ n ∷ []) is ∙ ap (λ ns. ns ++ address_of q ∷ []) same ∙ sym (map-append address_of ws (q ∷ [])) ∙ sym (ap (λ ns. map address_of ns) f)

  -- One is taken out.
  pub removed : (xs ys : List ℕ) (ws vs : List (Held T)) (i : ℕ) → i < length ws → ys ≡ remove xs i → vs ≡ remove ws i → xs ≡ map address_of ws → ys ≡ map address_of vs
  removed xs ys ws vs i l e f same =
      e ∙ ap (λ ns. remove ns i) same ∙ sym (map_removed address_of ws i l) ∙ sym (ap (λ ns. map address_of ns) f)

  -- One after another.
  pub one_more : (whole xs ys : List ℕ) (rs ts : List (Held T)) (q : Held T) (a : ℕ) → rs ≡ q ∷ ts → a ≡ address_of q → ys ≡ xs ++ a ∷ [] → xs ++ map address_of rs ≡ whole → ys ++ map address_of ts ≡ whole
  one_more whole xs ys rs ts q a step is e f =
      ap (λ ns. ns ++ map address_of ts) (e ∙ ap (λ n. xs ++ n ∷ []) is)
      ∙ append_assoc xs (address_of q ∷ []) (map address_of ts)
      ∙ sym (ap (λ ns. xs ++ map address_of ns) step)
      ∙ f

  pub all_put : (whole xs : List ℕ) (rs : List (Held T)) → length rs ≡ 0 → xs ++ map address_of rs ≡ whole → xs ≡ whole
  all_put whole xs [] e f = sym (append-nil xs) ∙ f
  all_put whole xs (r ∷ rs) e f = absurd (omega (arith, e))

pub from_none : (xs ys zs : List ℕ) → xs ≡ [] → ys ≡ xs ++ zs → ys ≡ zs
from_none xs ys zs e f = f ∙ ap (λ ns. ns ++ zs) e
