-- Decimal numbers, as they are printed, are read as these numbers.
use Rattle.std.proofs.Common.{◌≡◌, ℕ, ◌^◌, ◌<◌, ◌≤◌, ◌==◌, true, false, not, Ok, List, [], ◌∷◌, length, get_or, decimal, refl, ap, ◌∙◌, arith, rules, inl, inr}
use Rattle.std.proofs.lemmas.Bool.{cases_lt}
use Rattle.std.proofs.lemmas.Bool.Decides.{nat_tests}
use Rattle.std.proofs.lemmas.Fmt.{decimal_nonempty, first_decimal, decimal_digit, digits_decimal, digits_value-decimal}
use Rattle.std.proofs.lemmas.Str.Parse.{IsNumeralModel, numerals_by_fold}
use Rattle.master_lexer.specs.Lexemes.{ends_word}
use Rattle.master_lexer.specs.Lines.{is_plain}
use Rattle.decimal.specs.Digits.{is_digit, are_digits, value_from}
use Rattle.masterfile.specs.Numbers.{is_number, number_of}
use Rattle.masterfile.specs.Addresses.{is_decimal, octet, has_dot}
use Rattle.masterfile.proofs.PlainWords.{both, and_true, plain_byte}

own : IsNumeralModel (λ ds. are_digits ds ≡ true) (value_from 0)
own = numerals_by_fold _ (search rules) value_from (search rules)

pub decimal_digits : (n : ℕ) → n < 2 ^ 64 → are_digits (decimal n) ≡ true
decimal_digits n h = digits_decimal own n h

some_number : (w : List ℕ) → 0 < length w → are_digits w ≡ true → is_number w ≡ true
some_number [] h k = absurd (omega arith)
some_number (c ∷ w) h k = k

pub decimal_number : (n : ℕ) → n < 2 ^ 64 → is_number (decimal n) ≡ true
decimal_number n h = some_number (decimal n) (decimal_nonempty n h) (decimal_digits n h)

number_by : (limit n : ℕ) (w : List ℕ) → is_number w ≡ true → value_from 0 w ≡ n → n ≤ limit → number_of limit w ≡ Ok n
number_by limit n w h e k = rw (h, e) (grind (arith, nat_tests))

pub number_back : (limit n : ℕ) → n ≤ limit → limit < 2 ^ 64 → number_of limit (decimal n) ≡ Ok n
number_back limit n h k =
    let fits : n < 2 ^ 64 = omega arith in
    number_by limit n (decimal n) (decimal_number n fits) (digits_value-decimal own n fits) h

-- ---- digits are a plain word without dots

digit_ends : (c : ℕ) → is_digit c ≡ true → ends_word c ≡ false
digit_ends c h = grind (arith, nat_tests)

digit_slash : (c : ℕ) → is_digit c ≡ true → (c == 92) ≡ false
digit_slash c h = grind (arith, nat_tests)

digit_dot : (c : ℕ) → is_digit c ≡ true → (c == 46) ≡ false
digit_dot c h = grind (arith, nat_tests)

pub digits_plain : (w : List ℕ) → are_digits w ≡ true → is_plain false w ≡ true
digits_plain [] h = refl
digits_plain (c ∷ w) h = let q = both (is_digit c) (are_digits w) h in plain_byte c w (digit_ends c q.0) (digit_slash c q.0) (digits_plain w q.1)

pub digits_no_dot : (w : List ℕ) → are_digits w ≡ true → has_dot w ≡ false
digits_no_dot [] h = refl
digits_no_dot (c ∷ w) h = let q = both (is_digit c) (are_digits w) h in rw (digit_dot c q.0) (digits_no_dot w q.1)

-- ---- a number of an IPv4 address

decimal_by : (w : List ℕ) → is_number w ≡ true → 48 < get_or w 0 0 → is_decimal w ≡ true
decimal_by [] h k = cc
decimal_by (c ∷ []) h k = h
decimal_by (c ∷ d ∷ cs) h k = and_true (not (c == 48)) (is_number (c ∷ d ∷ cs)) (grind (arith, nat_tests)) h

no_zero_in_front : (n : ℕ) → n < 2 ^ 64 → is_decimal (decimal n) ≡ true
no_zero_in_front n h = elim (cases_lt 0 n) [
  | inl some ↦ decimal_by (decimal n) (decimal_number n h) (first_decimal n some h)
  | inr none ↦ let zero : n ≡ 0 = omega arith in ap (λ (x : ℕ). is_decimal (decimal x)) zero ∙ ap is_decimal (decimal_digit 0 (omega arith))
]

octet_by : (n : ℕ) (f : List ℕ) → is_decimal f ≡ true → value_from 0 f ≡ n → n < 256 → octet f ≡ Ok n
octet_by n f h e k = rw (h, e) (grind (arith, nat_tests))

pub octet_back : (n : ℕ) → n < 256 → octet (decimal n) ≡ Ok n
octet_back n h =
    let fits : n < 2 ^ 64 = omega arith in
    octet_by n (decimal n) (no_zero_in_front n fits) (digits_value-decimal own n fits) h
