-- What `{:03}` writes of a byte.
use Rattle.std.proofs.Common.{◌≡◌, ℕ, ◌+◌, ◌/◌, ◌%◌, ◌<◌, ◌≤◌, ◌^◌, ◌-◌, List, [], ◌∷◌, ◌++◌, decimal, refl, ap, ◌∙◌, arith, false, ◌⊎◌, inl, inr}
use Rattle.std.proofs.lemmas.Bool.{cases_order}
use Rattle.std.proofs.lemmas.Fmt.{decimal_digit, decimal_step}
use Rattle.std.specs.Fmt.{padded_integral, format_spec, char_count}

one_digit : (n : ℕ) → n < 10 → padded_integral (format_spec 32 0 4 3 (2 ^ 64 - 1)) false [] (decimal n) ≡ (48 + n / 100) ∷ (48 + n / 10 % 10) ∷ (48 + n % 10) ∷ []
unfolding padded_integral char_count
one_digit n h =
    let a : n / 100 ≡ 0 = omega arith in
    let b : n / 10 % 10 ≡ 0 = omega arith in
    let c : n % 10 ≡ n = omega arith in
    rw (decimal_digit n h, a, b, c) refl

two_digits : (n : ℕ) → n < 100 → 10 ≤ n → decimal n ≡ (48 + n / 10) ∷ (48 + n % 10) ∷ []
two_digits n h some = decimal_step n some (omega arith) ∙ ap (λ (x : List ℕ). x ++ ((48 + n % 10) ∷ [])) (decimal_digit (n / 10) (omega arith))

three_digits : (n : ℕ) → n < 256 → 100 ≤ n → decimal n ≡ (48 + n / 100) ∷ (48 + n / 10 % 10) ∷ (48 + n % 10) ∷ []
three_digits n h many =
    let a : n / 10 / 10 ≡ n / 100 = omega arith in
    decimal_step n (omega arith) (omega arith) ∙ ap (λ (x : List ℕ). x ++ ((48 + n % 10) ∷ [])) (two_digits (n / 10) (omega arith) (omega arith) ∙ ap (λ (m : ℕ). (48 + m) ∷ (48 + n / 10 % 10) ∷ []) a)

filled_two : (n : ℕ) → n < 100 → 10 ≤ n → padded_integral (format_spec 32 0 4 3 (2 ^ 64 - 1)) false [] (decimal n) ≡ (48 + n / 100) ∷ (48 + n / 10 % 10) ∷ (48 + n % 10) ∷ []
unfolding padded_integral char_count
filled_two n h some =
    let a : n / 100 ≡ 0 = omega arith in
    let b : n / 10 % 10 ≡ n / 10 = omega arith in
    rw (two_digits n h some, a, b) refl

filled_three : (n : ℕ) → n < 256 → 100 ≤ n → padded_integral (format_spec 32 0 4 3 (2 ^ 64 - 1)) false [] (decimal n) ≡ (48 + n / 100) ∷ (48 + n / 10 % 10) ∷ (48 + n % 10) ∷ []
unfolding padded_integral char_count
filled_three n h many = rw (three_digits n h many) refl

below_or_not : (n m : ℕ) → (n < m) ⊎ (m ≤ n)
below_or_not n m = elim (cases_order n m) [
  | inl same ↦ inr (omega arith)
  | inr (inl less) ↦ inl less
  | inr (inr more) ↦ inr (omega arith)
]

pub padded_byte : (n : ℕ) → n < 256 → padded_integral (format_spec 32 0 4 3 (2 ^ 64 - 1)) false [] (decimal n) ≡ (48 + n / 100) ∷ (48 + n / 10 % 10) ∷ (48 + n % 10) ∷ []
padded_byte n h = elim (below_or_not n 10) [
  | inl one ↦ one_digit n one
  | inr more ↦ elim (below_or_not n 100) [
    | inl two ↦ filled_two n two more
    | inr three ↦ filled_three n h three
  ]
]
