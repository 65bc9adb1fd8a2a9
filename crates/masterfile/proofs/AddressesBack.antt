-- Addresses, as they are printed, are read as these addresses.
use Rattle.std.proofs.Common.{◌≡◌, ℕ, suc, ◌+◌, ◌*◌, ◌/◌, ◌%◌, ◌<◌, ◌≤◌, ◌==◌, true, false, Result, Ok, List, [], ◌∷◌, ◌++◌, length, get_or, codes, decimal, refl, sym, ap, subst, ◌∙◌, append_assoc, arith, inl, inr}
use Rattle.std.proofs.lemmas.Bool.Decides.{nat_tests}
use Rattle.std.proofs.lemmas.Fmt.{decimal_nonempty, digits_is_IsNumeral}
use Rattle.std.specs.Char.{digit_value}
use Rattle.std.specs.Fmt.{digits, digits_onto, digit_glyph}
use Rattle.std.specs.Str.Parse.{AllDigits}
use Rattle.std.specs.Net.Addr.{octets_of}
use Rattle.std.specs.Net.Grammar.{IsGroup, IsGroupsAfter, IsColonHex}
use Rattle.std.proofs.NetLemmas.Arrays.{four_items, sixteen_items}
use Rattle.dname.proofs.Spellings.{told}
use Rattle.dname.specs.Spelling.{AreBytes}
use Rattle.rdata.specs.Text.{ipv4_text, ipv6_text, group_text, next_group_text}
use Rattle.master_lexer.specs.Lexemes.{ends_word}
use Rattle.master_lexer.specs.Lines.{is_plain}
use Rattle.masterfile.specs.declared.faults.FileKind.{FileKind}
use Rattle.masterfile.specs.Addresses.{fields, octet, octets, ipv4_of, has_dot, ipv6_of}
use Rattle.masterfile.proofs.Dots.{hex_no_dot, dots_append}
use Rattle.masterfile.proofs.FieldLemmas.{fields_last, fields_front}
use Rattle.masterfile.proofs.Ipv6Lemmas.{ipv6_read}
use Rattle.masterfile.proofs.PlainWords.{plain_append, plain_byte, eight_joined}
use Rattle.masterfile.proofs.NumbersBack.{decimal_digits, digits_plain, digits_no_dot, octet_back}

-- ---- IPv4

dotted_fields : (a b c d : List ℕ) → has_dot a ≡ false → has_dot b ≡ false → has_dot c ≡ false → has_dot d ≡ false
    → fields (a ++ 46 ∷ (b ++ 46 ∷ (c ++ 46 ∷ d))) ≡ a ∷ b ∷ c ∷ d ∷ []
dotted_fields a b c d ha hb hc hd =
    fields_front a (b ++ 46 ∷ (c ++ 46 ∷ d)) ha
    ∙ ap (λ (fs : List (List ℕ)). a ∷ fs) (fields_front b (c ++ 46 ∷ d) hb ∙ ap (λ (fs : List (List ℕ)). b ∷ fs) (fields_front c d hc ∙ ap (λ (fs : List (List ℕ)). c ∷ fs) (fields_last d hd)))

octets_by : (f g h i : List ℕ) (a b c d : ℕ) → octet f ≡ Ok a → octet g ≡ Ok b → octet h ≡ Ok c → octet i ≡ Ok d → octets (f ∷ g ∷ h ∷ i ∷ []) ≡ Ok (a ∷ b ∷ c ∷ d ∷ [])
octets_by f g h i a b c d p q r s = rw (p, q, r, s) refl

address_by : (w : List ℕ) (fs : List (List ℕ)) (a b c d : ℕ) → fields w ≡ fs → octets fs ≡ Ok (a ∷ b ∷ c ∷ d ∷ []) → ipv4_of w ≡ Ok (a ∷ b ∷ c ∷ d ∷ [])
address_by w fs a b c d e k = rw (e, k) refl

four_joined : (a b c d : List ℕ) → a ++ codes "." ++ b ++ codes "." ++ c ++ codes "." ++ d ≡ a ++ 46 ∷ (b ++ 46 ∷ (c ++ 46 ∷ d))
four_joined a b c d = simp append_assoc

abbrev dotted : ℕ → ℕ → ℕ → ℕ → List ℕ
dotted a b c d = decimal a ++ 46 ∷ (decimal b ++ 46 ∷ (decimal c ++ 46 ∷ decimal d))

no_dot : (n : ℕ) → n < 256 → has_dot (decimal n) ≡ false
no_dot n h = digits_no_dot (decimal n) (decimal_digits n (omega arith))

four_back : (a b c d : ℕ) → AreBytes (a ∷ b ∷ c ∷ d ∷ []) → ipv4_of (dotted a b c d) ≡ Ok (a ∷ b ∷ c ∷ d ∷ [])
four_back a b c d h =
    address_by (dotted a b c d) (decimal a ∷ decimal b ∷ decimal c ∷ decimal d ∷ []) a b c d
    (dotted_fields (decimal a) (decimal b) (decimal c) (decimal d) (no_dot a h.0) (no_dot b h.1.0) (no_dot c h.1.1.0) (no_dot d h.1.1.1.0))
    (octets_by (decimal a) (decimal b) (decimal c) (decimal d) a b c d (octet_back a h.0) (octet_back b h.1.0) (octet_back c h.1.1.0) (octet_back d h.1.1.1.0))

decimal_plain : (n : ℕ) → n < 256 → is_plain false (decimal n) ≡ true
decimal_plain n h = digits_plain (decimal n) (decimal_digits n (omega arith))

four_plain : (a b c d : ℕ) → AreBytes (a ∷ b ∷ c ∷ d ∷ []) → is_plain false (dotted a b c d) ≡ true
four_plain a b c d h =
    plain_append false (decimal a) (46 ∷ (decimal b ++ 46 ∷ (decimal c ++ 46 ∷ decimal d))) (decimal_plain a h.0)
    (plain_append false (decimal b) (46 ∷ (decimal c ++ 46 ∷ decimal d)) (decimal_plain b h.1.0)
    (plain_append false (decimal c) (46 ∷ decimal d) (decimal_plain c h.1.1.0) (decimal_plain d h.1.1.1.0)))

some_front : (a b : List ℕ) → 0 < length a → 0 < length (a ++ b)
some_front [] b h = absurd (omega arith)
some_front (c ∷ a) b h = omega arith

four_some : (a b c d : ℕ) → AreBytes (a ∷ b ∷ c ∷ d ∷ []) → 0 < length (dotted a b c d)
four_some a b c d h = some_front (decimal a) (46 ∷ (decimal b ++ 46 ∷ (decimal c ++ 46 ∷ decimal d))) (decimal_nonempty a (let s = h.0 in omega arith))

-- What holds of the text of an address.
pub record IsRead (reads : List ℕ → Result (List ℕ) FileKind) (text a : List ℕ) : Type 0 where
  pub back : reads text ≡ Ok a
  pub plain : is_plain false text ≡ true
  pub some : 0 < length text

pub ipv4_is_read : (a : List ℕ) → length a ≡ 4 → AreBytes a → IsRead ipv4_of (ipv4_text a) a
ipv4_is_read x e h =
    let a = get_or x 0 0 in
    let b = get_or x 1 0 in
    let c = get_or x 2 0 in
    let d = get_or x 3 0 in
    let all : x ≡ a ∷ b ∷ c ∷ d ∷ [] = four_items x e in
    let bytes : AreBytes (a ∷ b ∷ c ∷ d ∷ []) = subst (λ (y : List ℕ). AreBytes y) all h in
    let same : ipv4_text (a ∷ b ∷ c ∷ d ∷ []) ≡ dotted a b c d = four_joined (decimal a) (decimal b) (decimal c) (decimal d) in
    let read : IsRead ipv4_of (ipv4_text (a ∷ b ∷ c ∷ d ∷ [])) (a ∷ b ∷ c ∷ d ∷ []) =
    subst (λ (t : List ℕ). IsRead ipv4_of t (a ∷ b ∷ c ∷ d ∷ [])) (sym same) (record { back = four_back a b c d bytes; plain = four_plain a b c d bytes; some = four_some a b c d bytes }) in
    subst (λ (y : List ℕ). IsRead ipv4_of (ipv4_text y) y) (sym all) read

-- ---- hexadecimal digits

hex_ends : (c : ℕ) → digit_value c < 16 → ends_word c ≡ false
hex_ends c h = grind (arith, nat_tests)

hex_slash : (c : ℕ) → digit_value c < 16 → (c == 92) ≡ false
hex_slash c h = grind (arith, nat_tests)

hex_plain : (w : List ℕ) → AllDigits 16 w → is_plain false w ≡ true
hex_plain [] h = refl
hex_plain (c ∷ w) h = plain_byte c w (hex_ends c h.0) (hex_slash c h.0) (hex_plain w h.1)

-- how many digits there are
few_more : (k n m : ℕ) (acc : List ℕ) → length (digits_onto k 16 false (n / 16) (digit_glyph false (n % 16) ∷ acc)) ≤ m + length (digit_glyph false (n % 16) ∷ acc) → length (digits_onto (suc k) 16 false n acc) ≤ m + 1 + length acc
few_more k n m acc h = elim (told (n / 16 == 0)) [
  | inl t ↦ rw t (omega arith)
  | inr f ↦ rw f (omega arith)
]

few_one : (k n : ℕ) (acc : List ℕ) → n < 16 → length (digits_onto (suc k) 16 false n acc) ≤ 1 + length acc
few_one k n acc h = let t : (n / 16 == 0) ≡ true = grind (arith, nat_tests) in rw t (omega arith)

few_two : (k n : ℕ) (acc : List ℕ) → n < 256 → length (digits_onto (suc (suc k)) 16 false n acc) ≤ 2 + length acc
few_two k n acc h = few_more (suc k) n 1 acc (few_one k (n / 16) (digit_glyph false (n % 16) ∷ acc) (omega arith))

few_three : (k n : ℕ) (acc : List ℕ) → n < 4096 → length (digits_onto (suc (suc (suc k))) 16 false n acc) ≤ 3 + length acc
few_three k n acc h = few_more (suc (suc k)) n 2 acc (few_two k (n / 16) (digit_glyph false (n % 16) ∷ acc) (omega arith))

few_four : (k n : ℕ) (acc : List ℕ) → n < 65536 → length (digits_onto (suc (suc (suc (suc k)))) 16 false n acc) ≤ 4 + length acc
few_four k n acc h = few_more (suc (suc (suc k))) n 3 acc (few_three k (n / 16) (digit_glyph false (n % 16) ∷ acc) (omega arith))

group_short : (n : ℕ) → n < 65536 → length (digits 16 false n) ≤ 4
unfolding digits
group_short n h = few_four 60 n [] h

group_is : (n : ℕ) → n < 65536 → IsGroup (digits 16 false n) n
group_is n h = (digits_is_IsNumeral 16 false (omega arith) (omega arith) n (omega arith), group_short n h)

-- ---- IPv6

-- Groups behind their colons, of bytes two by two.
abbrev later_groups : List ℕ → List ℕ
later_groups [] = []
later_groups (h ∷ []) = []
later_groups (h ∷ l ∷ os) = next_group_text h l ++ later_groups os

abbrev segments_from : List ℕ → List ℕ
segments_from [] = []
segments_from (h ∷ []) = []
segments_from (h ∷ l ∷ os) = (256 * h + l) ∷ segments_from os

abbrev ArePairs : List ℕ → Type 0
ArePairs [] = Unit {0}
ArePairs (h ∷ []) = ⊥
ArePairs (h ∷ l ∷ os) = ArePairs os

later_are : (os : List ℕ) → AreBytes os → IsGroupsAfter true (58 ∷ []) (later_groups os) (segments_from os)
later_are [] k = refl
later_are (h ∷ []) k = refl
later_are (h ∷ l ∷ os) k =
    let a = k.0 in
    let b = k.1.0 in
    inl (group_text h l, later_groups os, refl, group_is (256 * h + l) (omega arith), later_are os k.1.1)

octets_back : (os : List ℕ) → AreBytes os → ArePairs os → octets_of (segments_from os) ≡ os
octets_back [] k p = refl
octets_back (h ∷ []) k p = absurd p
octets_back (h ∷ l ∷ os) k p =
    let a = k.0 in
    let b = k.1.0 in
    let high : (256 * h + l) / 256 ≡ h = omega arith in
    let low : (256 * h + l) % 256 ≡ l = omega arith in
    let rest : octets_of (segments_from os) ≡ os = octets_back os k.1.1 p in
    cc

group_digits : (h l : ℕ) → h < 256 → l < 256 → AllDigits 16 (group_text h l)
group_digits h l a b = (group_is (256 * h + l) (omega arith)).0.0.1

later_no_dot : (os : List ℕ) → AreBytes os → has_dot (later_groups os) ≡ false
later_no_dot [] k = refl
later_no_dot (h ∷ []) k = refl
later_no_dot (h ∷ l ∷ os) k = dots_append (group_text h l) (later_groups os) (hex_no_dot (group_text h l) (group_digits h l k.0 k.1.0)) (later_no_dot os k.1.1)

later_plain : (os : List ℕ) → AreBytes os → is_plain false (later_groups os) ≡ true
later_plain [] k = refl
later_plain (h ∷ []) k = refl
later_plain (h ∷ l ∷ os) k = plain_append false (group_text h l) (later_groups os) (hex_plain (group_text h l) (group_digits h l k.0 k.1.0)) (later_plain os k.1.1)

groups_read : (h l : ℕ) (os : List ℕ) → AreBytes (h ∷ l ∷ os) → ArePairs os → length (segments_from os) ≡ 7 → IsRead ipv6_of (group_text h l ++ later_groups os) (h ∷ l ∷ os)
groups_read h l os k p seven =
    let text : List ℕ = group_text h l ++ later_groups os in
    let a = k.0 in
    let b = k.1.0 in
    let segments : List ℕ = (256 * h + l) ∷ segments_from os in
    let form : IsColonHex text segments = inl (inl (group_text h l, later_groups os, refl, group_is (256 * h + l) (omega arith), later_are os k.1.1), omega arith) in
    let none : has_dot text ≡ false = dots_append (group_text h l) (later_groups os) (hex_no_dot (group_text h l) (group_digits h l a b)) (later_no_dot os k.1.1) in
    record {
      back = rw (none, ipv6_read text (record { segments = segments }) form) (ap (λ (x : List ℕ). Ok x) (octets_back (h ∷ l ∷ os) k p));
      plain = plain_append false (group_text h l) (later_groups os) (hex_plain (group_text h l) (group_digits h l a b)) (later_plain os k.1.1);
      some = some_front (group_text h l) (later_groups os) (group_is (256 * h + l) (omega arith)).0.0.0;
    }

sixteen_read : (h0 l0 h1 l1 h2 l2 h3 l3 h4 l4 h5 l5 h6 l6 h7 l7 : ℕ) → AreBytes (h0 ∷ l0 ∷ h1 ∷ l1 ∷ h2 ∷ l2 ∷ h3 ∷ l3 ∷ h4 ∷ l4 ∷ h5 ∷ l5 ∷ h6 ∷ l6 ∷ h7 ∷ l7 ∷ []) → IsRead ipv6_of (ipv6_text (h0 ∷ l0 ∷ h1 ∷ l1 ∷ h2 ∷ l2 ∷ h3 ∷ l3 ∷ h4 ∷ l4 ∷ h5 ∷ l5 ∷ h6 ∷ l6 ∷ h7 ∷ l7 ∷ [])) (h0 ∷ l0 ∷ h1 ∷ l1 ∷ h2 ∷ l2 ∷ h3 ∷ l3 ∷ h4 ∷ l4 ∷ h5 ∷ l5 ∷ h6 ∷ l6 ∷ h7 ∷ l7 ∷ [])
sixteen_read h0 l0 h1 l1 h2 l2 h3 l3 h4 l4 h5 l5 h6 l6 h7 l7 k =
    let same : ipv6_text (h0 ∷ l0 ∷ h1 ∷ l1 ∷ h2 ∷ l2 ∷ h3 ∷ l3 ∷ h4 ∷ l4 ∷ h5 ∷ l5 ∷ h6 ∷ l6 ∷ h7 ∷ l7 ∷ []) ≡ group_text h0 l0 ++ later_groups (h1 ∷ l1 ∷ h2 ∷ l2 ∷ h3 ∷ l3 ∷ h4 ∷ l4 ∷ h5 ∷ l5 ∷ h6 ∷ l6 ∷ h7 ∷ l7 ∷ []) =
    eight_joined (group_text h0 l0) (next_group_text h1 l1) (next_group_text h2 l2) (next_group_text h3 l3) (next_group_text h4 l4) (next_group_text h5 l5) (next_group_text h6 l6) (next_group_text h7 l7) in
    subst (λ (text : List ℕ). IsRead ipv6_of text (h0 ∷ l0 ∷ h1 ∷ l1 ∷ h2 ∷ l2 ∷ h3 ∷ l3 ∷ h4 ∷ l4 ∷ h5 ∷ l5 ∷ h6 ∷ l6 ∷ h7 ∷ l7 ∷ [])) (sym same) (groups_read h0 l0 (h1 ∷ l1 ∷ h2 ∷ l2 ∷ h3 ∷ l3 ∷ h4 ∷ l4 ∷ h5 ∷ l5 ∷ h6 ∷ l6 ∷ h7 ∷ l7 ∷ []) k tt refl)

pub ipv6_is_read : (a : List ℕ) → length a ≡ 16 → AreBytes a → IsRead ipv6_of (ipv6_text a) a
ipv6_is_read x e k =
    let h0 = get_or x 0 0 in
    let l0 = get_or x 1 0 in
    let h1 = get_or x 2 0 in
    let l1 = get_or x 3 0 in
    let h2 = get_or x 4 0 in
    let l2 = get_or x 5 0 in
    let h3 = get_or x 6 0 in
    let l3 = get_or x 7 0 in
    let h4 = get_or x 8 0 in
    let l4 = get_or x 9 0 in
    let h5 = get_or x 10 0 in
    let l5 = get_or x 11 0 in
    let h6 = get_or x 12 0 in
    let l6 = get_or x 13 0 in
    let h7 = get_or x 14 0 in
    let l7 = get_or x 15 0 in
    let all : x ≡ h0 ∷ l0 ∷ h1 ∷ l1 ∷ h2 ∷ l2 ∷ h3 ∷ l3 ∷ h4 ∷ l4 ∷ h5 ∷ l5 ∷ h6 ∷ l6 ∷ h7 ∷ l7 ∷ [] = sixteen_items x e in
    subst (λ (y : List ℕ). IsRead ipv6_of (ipv6_text y) y) (sym all) (sixteen_read h0 l0 h1 l1 h2 l2 h3 l3 h4 l4 h5 l5 h6 l6 h7 l7 (subst (λ (y : List ℕ). AreBytes y) all k))
