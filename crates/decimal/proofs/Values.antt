-- On the value of digits.
use Rattle.std.proofs.Common.{◌≡◌, ℕ, suc, ◌+◌, ◌-◌, ◌*◌, ◌<◌, ◌≤◌, List, [], ◌∷◌, length, drop, get_or, drop-cons, arith}
use Rattle.decimal.specs.Digits.{value_from}

pub value_grows : (n : ℕ) (cs : List ℕ) → n ≤ value_from n cs
value_grows n [] = omega arith
value_grows n (c ∷ cs) = omega (arith, value_grows (n * 10 + (c - 48)) cs)

-- a value that passes the limit at one digit passes it at the end
pub value_over : (ds : List ℕ) (v limit i : ℕ) → i < length ds → value_from v (drop i ds) ≡ value_from 0 ds → limit < v * 10 + (get_or ds i 0 - 48) → limit < value_from 0 ds
value_over ds v limit i h e o =
    let d : drop i ds ≡ get_or ds i 0 ∷ drop (suc i) ds = drop-cons ds i 0 h in
    let s : value_from (v * 10 + (get_or ds i 0 - 48)) (drop (suc i) ds) ≡ value_from 0 ds = rw d at e in
    omega (arith, value_grows (v * 10 + (get_or ds i 0 - 48)) (drop (suc i) ds))
