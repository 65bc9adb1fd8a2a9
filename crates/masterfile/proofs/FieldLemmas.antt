-- On the fields between dots.
use Rattle.std.proofs.Common.{◌≡◌, ℕ, zero, suc, ◌+◌, ◌<◌, ◌≤◌, ◌==◌, Bool, true, false, ◌||◌, cond, Some, None, Result, Ok, Err, List, [], ◌∷◌, ◌++◌, length, get_or, take, drop, take_all, take-append-drop, length-drop, drop-cons, ◌-◌, refl, sym, ap, ◌∙◌, arith}
use Rattle.std.specs.List.{list_any}
use Rattle.memchr.specs.Find.{IsFirstByte, is_byte}
use Rattle.std.proofs.lemmas.Bool.Decides.{nat_tests}
use Rattle.masterfile.proofs.Dots.{neither}
use Rattle.masterfile.specs.declared.faults.FileKind.{FileKind}
use Rattle.masterfile.specs.declared.faults.FileKind.TheVariants.{BadData}
use Rattle.masterfile.specs.Faults.{◌>>=◌}
use Rattle.masterfile.specs.Addresses.{onto_first, fields, has_dot, octet, octets, after_octet, surplus_kind, ipv4_of}

pub fields_last : (w : List ℕ) → has_dot w ≡ false → fields w ≡ w ∷ []
fields_last [] h = refl
fields_last (c ∷ cs) h = let q = neither (c == 46) (has_dot cs) h in rw (q.0, fields_last cs q.1) refl

pub fields_front : (w rest : List ℕ) → has_dot w ≡ false → fields (w ++ 46 ∷ rest) ≡ w ∷ fields rest
fields_front [] rest h = refl
fields_front (c ∷ cs) rest h = let q = neither (c == 46) (has_dot cs) h in rw (q.0, fields_front cs rest q.1) refl

-- the library's search for a dot, and its test of one
dots_are_any : (w : List ℕ) → list_any (λ (c : ℕ). c == 46) w ≡ has_dot w
dots_are_any [] = refl
dots_are_any (c ∷ cs) = ap (λ (b : Bool). c == 46 || b) (dots_are_any cs)

pub any_dot : (w : List ℕ) (b : Bool) → b ≡ list_any (λ (c : ℕ). c == 46) w → b ≡ has_dot w
any_dot w b e = e ∙ dots_are_any w

is_false : (b : Bool) → ¬ (b ≡ true) → b ≡ false
is_false true h = absurd (h refl)
is_false false h = refl

no_dot_before : (w : List ℕ) (k : ℕ) → k ≤ length w → ((i : ℕ) → i < k → (get_or w i 0 == 46) ≡ false) → has_dot (take k w) ≡ false
no_dot_before w zero le h = refl
no_dot_before [] (suc k) le h = refl
no_dot_before (c ∷ cs) (suc k) le h = rw (h 0 (omega arith)) (no_dot_before cs k (omega arith) (λ i lt. h (suc i) (omega arith)))

is_dot : (c : ℕ) → (c == 46) ≡ true → c ≡ 46
is_dot c e = grind (arith, nat_tests, e)

pub no_dot : (w : List ℕ) → IsFirstByte (is_byte 46) w None → fields w ≡ w ∷ []
no_dot w h =
    let none = no_dot_before w (length w) (omega arith) (λ i lt. is_false (get_or w i 0 == 46) (h i (omega arith) lt)) in
    fields_last w (ap has_dot (sym (take_all (length w) w (omega arith))) ∙ none)

pub first_dot : (w : List ℕ) (k : ℕ) → IsFirstByte (is_byte 46) w (Some k) → fields w ≡ take k w ∷ fields (take (length w - (k + 1)) (drop (k + 1) w))
first_dot w k (first, there) =
    let high = first.high in
    let none = no_dot_before w k (omega arith) (λ i lt. is_false (get_or w i 0 == 46) (first.before i (omega arith) lt)) in
    let next : suc k ≡ k + 1 = omega arith in
    let from : drop k w ≡ 46 ∷ drop (k + 1) w = drop-cons w k 0 high ∙ ap (λ (c : ℕ). c ∷ drop (suc k) w) (is_dot (get_or w k 0) there) ∙ ap (λ (n : ℕ). 46 ∷ drop n w) next in
    ap fields (sym (take-append-drop k w) ∙ ap (λ (x : List ℕ). take k w ++ x) from) ∙ fields_front (take k w) (drop (k + 1) w) none
    ∙ ap (λ (x : List ℕ). take k w ∷ fields x) (sym (take_all (length w - (k + 1)) (drop (k + 1) w) (omega (arith, length-drop (k + 1) w))))

-- there is a field, so numbers that were all read are one or more
some_first : (b : Bool) (c : ℕ) (fs : List (List ℕ)) → 0 < length (cond b ([] ∷ fs) (onto_first c fs))
some_first true c fs = omega arith
some_first false c [] = omega arith
some_first false c (f ∷ fs) = omega arith

some_field : (w : List ℕ) → 0 < length (fields w)
some_field [] = omega arith
some_field (c ∷ cs) = some_first (c == 46) c (fields cs)

after_some : (r : Result ℕ FileKind) (s : Result (List ℕ) FileKind) → (r >>= λ (n : ℕ). after_octet n s) ≡ Ok [] → ⊥
after_some (Err k) s e = cc
after_some (Ok n) (Err k) e = cc
after_some (Ok n) (Ok ns) e = cc

some_octet : (fs : List (List ℕ)) → 0 < length fs → octets fs ≡ Ok [] → ⊥
some_octet [] h e = omega arith
some_octet (f ∷ fs) h e = after_some (octet f) (octets fs) e

abbrev Four : Result (List ℕ) FileKind → Result (List ℕ) FileKind
Four r = r >>= λ (ns : List ℕ). cond (length ns == 4) (Ok ns) (Err BadData)

more_than_four : (w : List ℕ) (a b c d : ℕ) (r : Result (List ℕ) FileKind) → octets (fields w) ≡ r
    → Four (after_octet a (after_octet b (after_octet c (after_octet d r)))) ≡ Err (surplus_kind r)
more_than_four w a b c d (Err k) e = refl
more_than_four w a b c d (Ok []) e = absurd (some_octet (fields w) (some_field w) e)
more_than_four w a b c d (Ok (n ∷ ns)) e = grind (arith, nat_tests)

pub long_address : (w v u t rest : List ℕ) (a b c d : ℕ) → octets (fields w) ≡ after_octet a (octets (fields v)) → octets (fields v) ≡ after_octet b (octets (fields u))
    → octets (fields u) ≡ after_octet c (octets (fields t)) → octets (fields t) ≡ after_octet d (octets (fields rest)) → ipv4_of w ≡ Err (surplus_kind (octets (fields rest)))
long_address w v u t rest a b c d e f g h =
    ap Four (e ∙ ap (after_octet a) (f ∙ ap (after_octet b) (g ∙ ap (after_octet c) h))) ∙ more_than_four rest a b c d (octets (fields rest)) refl
