-- Numbers and texts that stand at a place are those that are read there, and how what stands follows through a
-- reader's tests.
use Rattle.std.proofs.Common.{◌≡◌, ℕ, suc, ◌+◌, ◌-◌, ◌*◌, ◌/◌, ◌%◌, ◌^◌, ◌<◌, ◌≤◌, Bool, true, false, List, [], ◌∷◌, length, take, drop, Result, Ok, Err, IfOk, refl, sym, ◌∙◌, ap, subst, arith, length-drop, length-take}
use Rattle.std.specs.Prelude.{if◌then◌else◌, slice_index, slice_range}
use Rattle.std.specs.Int.{bytes_high_first}
use Rattle.std.proofs.Math.Seq.{drop-cons}
use Rattle.message_grammar.specs.Places.{IsAt}
use Rattle.wire.specs.declared.error.WireError.{WireError}
use Rattle.wire.specs.Numbers.{two_at, four_at}
use Rattle.wire.specs.Results.{and_then}

-- ---- readers

pub test_read : {X : Type 0} (P : X → Type 0) (b : Bool) (x y : Result X WireError) → (b ≡ true → IfOk x P) → (b ≡ false → IfOk y P)
    → IfOk (if b then x else y) P
test_read P true x y f g = f refl
test_read P false x y f g = g refl

pub then_read : {X Y : Type 0} (P : X → Type 0) (Q : Y → Type 0) (r : Result X WireError) (next : X → Result Y WireError) → IfOk r P
    → ((x : X) → P x → IfOk (next x) Q) → IfOk (and_then r next) Q
then_read P Q (Ok x) next h f = f x h
then_read P Q (Err e) next h f = tt

pub was_read : {X : Type 0} (P : X → Type 0) (r : Result X WireError) (x : X) → IfOk r P → r ≡ Ok x → P x
was_read {X} P r x h e = subst (λ (y : Result X WireError). IfOk y P) e h

pub test_yes : {X : Type 0} (b : Bool) (x y : X) → b ≡ true → (if b then x else y) ≡ x
test_yes b x y h = ap (λ c. if c then x else y) h

pub test_no : {X : Type 0} (b : Bool) (x y : X) → b ≡ false → (if b then x else y) ≡ y
test_no b x y h = ap (λ c. if c then x else y) h

-- ---- texts

-- Each is a byte.
abbrev pub AreSmall : List ℕ → Type 0
AreSmall bytes = (i : ℕ) → slice_index bytes i < 256

pub range_stands : (bytes : List ℕ) (at n : ℕ) → at + n ≤ length bytes
    → IsAt bytes at (slice_range bytes at (at + n)) (at + n) × (length (slice_range bytes at (at + n)) ≡ n)
range_stands bytes at n fits =
    let less : at + n - at ≡ n = omega arith in
    let long : length (slice_range bytes at (at + n)) ≡ n = omega (arith, length-take (at + n - at) (drop at bytes), length-drop at bytes) in
    (record { there = omega arith; is = ap (λ k. take k (drop at bytes)) (long ∙ sym less); last = omega arith }, long)

pub range_takes : (bytes : List ℕ) (at n : ℕ) (text : List ℕ) (end : ℕ) → IsAt bytes at text end → length text ≡ n
    → slice_range bytes at (at + n) ≡ text
range_takes bytes at n text end h long =
    let less : at + n - at ≡ length text = omega arith in
    ap (λ k. take k (drop at bytes)) less ∙ h.is

pub at-along : (bytes : List ℕ) (at place : ℕ) (text : List ℕ) (end last : ℕ) → IsAt bytes at text end → at ≡ place → end ≡ last
    → IsAt bytes place text last
at-along bytes at place text end last h a e =
    subst (λ (n : ℕ). IsAt bytes n text last) a (subst (λ (n : ℕ). IsAt bytes at text n) e h)

-- ---- numbers

pub first_byte : (bytes : List ℕ) (at : ℕ) → at < length bytes → drop at bytes ≡ slice_index bytes at ∷ drop (at + 1) bytes
first_byte bytes at within =
    let next : suc at ≡ at + 1 = omega arith in
    drop-cons bytes at 0 within ∙ ap (λ n. slice_index bytes at ∷ drop n bytes) next

pub two_bytes : (bytes : List ℕ) (at : ℕ) → at + 2 ≤ length bytes → take 2 (drop at bytes) ≡ slice_index bytes at ∷ slice_index bytes (at + 1) ∷ []
two_bytes bytes at fits =
    ap (take 2) (first_byte bytes at (omega arith) ∙ ap (λ x. slice_index bytes at ∷ x) (first_byte bytes (at + 1) (omega arith)))

four_bytes : (bytes : List ℕ) (at : ℕ) → at + 4 ≤ length bytes
    → take 4 (drop at bytes) ≡ slice_index bytes at ∷ slice_index bytes (at + 1) ∷ slice_index bytes (at + 2) ∷ slice_index bytes (at + 3) ∷ []
four_bytes bytes at fits =
    let b : at + 1 + 1 ≡ at + 2 = omega arith in
    let c : at + 2 + 1 ≡ at + 3 = omega arith in
    let third = first_byte bytes (at + 2) (omega arith) ∙ ap (λ x. slice_index bytes (at + 2) ∷ x) (ap (λ n. drop n bytes) c ∙ first_byte bytes (at + 3) (omega arith)) in
    let second = first_byte bytes (at + 1) (omega arith) ∙ ap (λ x. slice_index bytes (at + 1) ∷ x) (ap (λ n. drop n bytes) b ∙ third) in
    ap (take 4) (first_byte bytes at (omega arith) ∙ ap (λ x. slice_index bytes at ∷ x) second)

pub two_stands : (bytes : List ℕ) (at : ℕ) → AreSmall bytes → at + 2 ≤ length bytes → IsAt bytes at (bytes_high_first 2 (two_at bytes at)) (at + 2)
two_stands bytes at small fits =
    let a = small at in
    let b = small (at + 1) in
    let x = slice_index bytes at in
    let y = slice_index bytes (at + 1) in
    let high : x ≡ (x * 256 + y) / 256 % 256 = omega arith in
    let low : y ≡ (x * 256 + y) % 256 = omega arith in
    record { there = fits; is = two_bytes bytes at fits ∙ (λ i. high i ∷ low i ∷ []); last = refl }

pub two_small : (bytes : List ℕ) (at : ℕ) → AreSmall bytes → two_at bytes at < 65536
two_small bytes at small =
    let a = small at in
    let b = small (at + 1) in
    omega arith

pub two_takes : (bytes : List ℕ) (at place n end : ℕ) → IsAt bytes place (bytes_high_first 2 n) end → place ≡ at → n < 65536 → two_at bytes at ≡ n
two_takes bytes at place n end h same few =
    let k = at-along bytes place at (bytes_high_first 2 n) end end h same refl in
    let there = k.there in
    let read : slice_index bytes at ∷ slice_index bytes (at + 1) ∷ [] ≡ n / 256 % 256 ∷ n % 256 ∷ [] = sym (two_bytes bytes at there) ∙ k.is in
    let high : slice_index bytes at ≡ n / 256 % 256 = ap (λ l. slice_index l 0) read in
    let low : slice_index bytes (at + 1) ≡ n % 256 = ap (λ l. slice_index l 1) read in
    omega arith

pub four_stands : (bytes : List ℕ) (at : ℕ) → AreSmall bytes → at + 4 ≤ length bytes → IsAt bytes at (bytes_high_first 4 (four_at bytes at)) (at + 4)
four_stands bytes at small fits =
    let a = small at in
    let b = small (at + 1) in
    let c = small (at + 2) in
    let d = small (at + 3) in
    let w = slice_index bytes at in
    let x = slice_index bytes (at + 1) in
    let y = slice_index bytes (at + 2) in
    let z = slice_index bytes (at + 3) in
    let n = w * 16777216 + x * 65536 + y * 256 + z in
    let first : w ≡ n / 16777216 % 256 = omega arith in
    let second : x ≡ n / 65536 % 256 = omega arith in
    let third : y ≡ n / 256 % 256 = omega arith in
    let fourth : z ≡ n % 256 = omega arith in
    record { there = fits; is = four_bytes bytes at fits ∙ (λ i. first i ∷ second i ∷ third i ∷ fourth i ∷ []); last = refl }

pub four_small : (bytes : List ℕ) (at : ℕ) → AreSmall bytes → four_at bytes at < 2 ^ 32
four_small bytes at small =
    let a = small at in
    let b = small (at + 1) in
    let c = small (at + 2) in
    let d = small (at + 3) in
    omega arith

pub four_takes : (bytes : List ℕ) (at place n end : ℕ) → IsAt bytes place (bytes_high_first 4 n) end → place ≡ at → n < 2 ^ 32 → four_at bytes at ≡ n
four_takes bytes at place n end h same few =
    let k = at-along bytes place at (bytes_high_first 4 n) end end h same refl in
    let there = k.there in
    let read : slice_index bytes at ∷ slice_index bytes (at + 1) ∷ slice_index bytes (at + 2) ∷ slice_index bytes (at + 3) ∷ []
    ≡ n / 16777216 % 256 ∷ n / 65536 % 256 ∷ n / 256 % 256 ∷ n % 256 ∷ [] = sym (four_bytes bytes at there) ∙ k.is in
    let first : slice_index bytes at ≡ n / 16777216 % 256 = ap (λ l. slice_index l 0) read in
    let second : slice_index bytes (at + 1) ≡ n / 65536 % 256 = ap (λ l. slice_index l 1) read in
    let third : slice_index bytes (at + 2) ≡ n / 256 % 256 = ap (λ l. slice_index l 2) read in
    let fourth : slice_index bytes (at + 3) ≡ n % 256 = ap (λ l. slice_index l 3) read in
    omega arith
