-- RDATA that stand at a place are those that are read there.
use Rattle.std.proofs.Common.{◌≡◌, ℕ, zero, suc, ◌+◌, ◌-◌, ◌<◌, ◌≤◌, true, false, List, [], ◌∷◌, ◌++◌, length, take, drop, Ok, Err, IfOk, refl, sym, ◌∙◌, ap, subst, arith, length-append, length-take, length-drop}
use Rattle.std.specs.Prelude.{nat_eq, nat_lt, nat_le, slice_index, slice_range}
use Rattle.std.specs.Int.{bytes_high_first}
use Rattle.std.specs.List.{AllByRecursion}
use Rattle.std.proofs.Math.Seq.{take-add, take-append_seam, drop-append_seam}
use Rattle.std.proofs.lemmas.List.{drop-drop}
use Rattle.std.proofs.lemmas.Bool.Decides.{nat_tests}
use Rattle.rdata.specs.Data.{Authority, Service, Datum, Ipv4, Ns, Cname, Soa, Ptr, Mx, Txt, Ipv6, Srv, type_of}
use Rattle.rdata.specs.Types.{type_number}
use Rattle.rdata.specs.declared.rtype.RType.{RType}
use Rattle.rdata.specs.declared.rtype.RType.TheVariants as served
use Rattle.message_grammar.specs.Names.{NameAt, FullAt}
use Rattle.message_grammar.specs.Places.{IsAt, FlatsAt}
use Rattle.message_grammar.specs.Messages.{strings_bytes, data_flats, FitsRdata}
use Rattle.wire.specs.declared.error.WireError.TheVariants.{BadRdataLength}
use Rattle.wire.specs.Numbers.{two_at, four_at}
use Rattle.wire.specs.Parts.{rdata_faults, full_name_at}
use Rattle.wire.specs.Results.{and_then}
use Rattle.wire.specs.Values.{bytes_within, two_within, name_within, whole, as_ipv4, as_ipv6, as_ns, as_cname, as_ptr, as_mx, mx_behind, soa_numbers, soa_behind, as_srv, string_at, with_string, strings_from, as_txt, txt_behind, texts_at, form_at, value_at}
use Rattle.wire.proofs.Bytes.{AreSmall, test_read, then_read, test_yes, test_no, range_stands, range_takes, at-along, first_byte, two_stands, two_small, two_takes, four_stands, four_small, four_takes}
use Rattle.wire.proofs.NamesRead.{name_stands, name_read, name_within_bytes, full_stands, full_read, full_within_bytes}

-- ---- texts in a row

join : (bytes : List ℕ) (at : ℕ) (a b : List ℕ) (mid end : ℕ) → IsAt bytes at a mid → IsAt bytes mid b end → IsAt bytes at (a ++ b) end
join bytes at a b mid end h k =
    let e = h.last in
    let d = k.last in
    let there = k.there in
    let long = length-append a b in
    let behind : take (length b) (drop (length a) (drop at bytes)) ≡ b =
    ap (take (length b)) (drop-drop (length a) at bytes) ∙ (ap (λ n. take (length b) (drop n bytes)) (sym e) ∙ k.is) in
    let first = h.is in
    record {
      there = omega arith;
      is = ap (λ n. take n (drop at bytes)) long ∙ (take-add (length a) (length b) (drop at bytes) ∙ (λ i. first i ++ behind i));
      last = omega arith;
    }

apart : (bytes : List ℕ) (at : ℕ) (a b : List ℕ) (end : ℕ) → IsAt bytes at (a ++ b) end → IsAt bytes at a (at + length a) × IsAt bytes (at + length a) b end
apart bytes at a b end h =
    let long = length-append a b in
    let e = h.last in
    let there = h.there in
    let front = take (length a) (drop at bytes) in
    let back = take (length b) (drop (length a) (drop at bytes)) in
    let both : front ++ back ≡ a ++ b = sym (take-add (length a) (length b) (drop at bytes)) ∙ (ap (λ n. take n (drop at bytes)) (sym long) ∙ h.is) in
    let same : length front ≡ length a = omega (arith, length-take (length a) (drop at bytes), length-drop at bytes) in
    let first : front ≡ a = sym (take-append_seam front back) ∙ (ap (take (length front)) both ∙ (ap (λ n. take n (a ++ b)) same ∙ take-append_seam a b)) in
    let second : back ≡ b = sym (drop-append_seam front back) ∙ (ap (drop (length front)) both ∙ (ap (λ n. drop n (a ++ b)) same ∙ drop-append_seam a b)) in (
      record { there = omega arith; is = first; last = refl },
      record { there = omega arith; is = ap (take (length b)) (sym (drop-drop (length a) at bytes)) ∙ second; last = omega arith },
    )

-- ---- character-strings

abbrev IsString : List ℕ → ℕ → ℕ → List ℕ × ℕ → Type 0
IsString bytes at end found = IsAt bytes at (length found.0 ∷ found.0) found.1 × (length found.0 < 256) × (found.1 ≤ end)

string_stands : (bytes : List ℕ) (at end : ℕ) → AreSmall bytes → end ≤ length bytes → IfOk (string_at bytes at end) (IsString bytes at end)
string_stands bytes at end small fits =
    let size = slice_index bytes at in
    let few = small at in
    test_read (IsString bytes at end) (nat_le end at) (Err BadRdataLength) _ (λ _. tt)
    (λ inside.
    let within : at < end = grind (arith, nat_tests) in
    test_read (IsString bytes at end) (nat_lt end (at + 1 + size)) (Err BadRdataLength) _ (λ _. tt)
    (λ over.
    let reach : at + 1 + size ≤ end = grind (arith, nat_tests) in
    let text = range_stands bytes (at + 1) size (omega arith) in
    let s = slice_range bytes (at + 1) (at + 1 + size) in
    let long : length s ≡ size = text.1 in
    let is = text.0.is in
    let head = first_byte bytes at (omega arith) in (
      record {
        there = omega arith;
        is = ap (take (suc (length s))) head ∙ (λ i. sym long i ∷ is i);
        last = omega arith;
      },
      omega arith,
      reach,
    )))

string_read : (bytes : List ℕ) (at end : ℕ) (s : List ℕ) (mid : ℕ) → IsAt bytes at (length s ∷ s) mid → mid ≤ end → string_at bytes at end ≡ Ok (s, mid)
string_read bytes at end s mid h within =
    let e = h.last in
    let there = h.there in
    let size = slice_index bytes at in
    let both : size ∷ take (length s) (drop (at + 1) bytes) ≡ length s ∷ s = ap (take (suc (length s))) (sym (first_byte bytes at (omega arith))) ∙ h.is in
    let long : size ≡ length s = ap (λ l. slice_index l 0) both in
    let text : take (length s) (drop (at + 1) bytes) ≡ s = ap (drop 1) both in
    let a : nat_le end at ≡ false = grind (arith, nat_tests) in
    let b : nat_lt end (at + 1 + size) ≡ false = grind (arith, nat_tests) in
    let less : at + 1 + size - (at + 1) ≡ length s = omega arith in
    let range : slice_range bytes (at + 1) (at + 1 + size) ≡ s = ap (λ n. take n (drop (at + 1) bytes)) less ∙ text in
    let past : at + 1 + size ≡ mid = omega arith in
    test_no (nat_le end at) (Err BadRdataLength) _ a ∙ (test_no (nat_lt end (at + 1 + size)) (Err BadRdataLength) _ b ∙ (λ i. Ok (range i, past i)))

abbrev AreStrings : List ℕ → ℕ → ℕ → List (List ℕ) → Type 0
AreStrings bytes at end strings = IsAt bytes at (strings_bytes strings) end × AllByRecursion (λ s. length s < 256) strings

no_strings : (bytes : List ℕ) (at end : ℕ) → end ≤ length bytes → at ≡ end → AreStrings bytes at end []
no_strings bytes at end fits same = (record { there = omega arith; is = refl; last = omega arith }, tt)

strings_stand : (fuel : ℕ) (bytes : List ℕ) (at end : ℕ) → AreSmall bytes → end ≤ length bytes → at ≤ end → end - at ≤ fuel
    → IfOk (strings_from fuel bytes at end) (AreStrings bytes at end)
strings_stand zero bytes at end small fits within enough = no_strings bytes at end fits (omega arith)
strings_stand (suc fuel) bytes at end small fits within enough =
    test_read (AreStrings bytes at end) (nat_lt at end) _ (Ok [])
    (λ _. then_read (IsString bytes at end) (AreStrings bytes at end) (string_at bytes at end) (λ s. and_then (strings_from fuel bytes s.1 end) (with_string s.0))
    (string_stands bytes at end small fits)
    (λ s h.
    let e = h.0.last in
    then_read (AreStrings bytes s.1 end) (AreStrings bytes at end) (strings_from fuel bytes s.1 end) (with_string s.0)
    (strings_stand fuel bytes s.1 end small fits h.2 (omega arith))
    (λ rest k. (join bytes at (length s.0 ∷ s.0) (strings_bytes rest) s.1 end h.0 k.0, (h.1, k.1)))))
    (λ past. no_strings bytes at end fits (grind (arith, nat_tests)))

strings_read : (strings : List (List ℕ)) (fuel : ℕ) (bytes : List ℕ) (at end : ℕ) → IsAt bytes at (strings_bytes strings) end → end - at ≤ fuel
    → strings_from fuel bytes at end ≡ Ok strings
strings_read [] zero bytes at end h enough = refl
strings_read [] (suc fuel) bytes at end h enough =
    let e = h.last in
    let a : nat_lt at end ≡ false = grind (arith, nat_tests) in
    test_no (nat_lt at end) _ (Ok []) a
strings_read (s ∷ strings) zero bytes at end h enough = let e = h.last in absurd (omega arith)
strings_read (s ∷ strings) (suc fuel) bytes at end h enough =
    let both = apart bytes at (length s ∷ s) (strings_bytes strings) end h in
    let mid = at + length (length s ∷ s) in
    let e = both.1.last in
    let a : nat_lt at end ≡ true = grind (arith, nat_tests) in
    let one = string_read bytes at end s mid both.0 (omega arith) in
    let more = strings_read strings fuel bytes mid end both.1 (omega arith) in
    test_yes (nat_lt at end) _ (Ok []) a ∙ (ap (λ x. and_then x (λ t. and_then (strings_from fuel bytes t.1 end) (with_string t.0))) one
    ∙ ap (λ x. and_then x (with_string s)) more)

abbrev pub AreTexts : List ℕ → ℕ → ℕ → List (List ℕ) → Type 0
AreTexts bytes at end strings = IsAt bytes at (strings_bytes strings) end × (0 < length strings) × AllByRecursion (λ s. length s < 256) strings

pub texts_stand : (bytes : List ℕ) (at end : ℕ) → AreSmall bytes → end ≤ length bytes → IfOk (texts_at bytes at end) (AreTexts bytes at end)
texts_stand bytes at end small fits =
    then_read (IsString bytes at end) (AreTexts bytes at end) (string_at bytes at end) (txt_behind bytes end) (string_stands bytes at end small fits)
    (λ s h. then_read (AreStrings bytes s.1 end) (AreTexts bytes at end) (strings_from (end - s.1) bytes s.1 end) (with_string s.0)
    (strings_stand (end - s.1) bytes s.1 end small fits h.2 (omega arith))
    (λ rest k. (join bytes at (length s.0 ∷ s.0) (strings_bytes rest) s.1 end h.0 k.0, omega arith, (h.1, k.1))))

texts_read : (strings : List (List ℕ)) (bytes : List ℕ) (at end : ℕ) → IsAt bytes at (strings_bytes strings) end → 0 < length strings → texts_at bytes at end ≡ Ok strings
texts_read [] bytes at end h some = absurd (omega arith)
texts_read (s ∷ strings) bytes at end h some =
    let both = apart bytes at (length s ∷ s) (strings_bytes strings) end h in
    let mid = at + length (length s ∷ s) in
    let e = both.1.last in
    let one = string_read bytes at end s mid both.0 (omega arith) in
    let more = strings_read strings (end - mid) bytes mid end both.1 (omega arith) in
    ap (λ x. and_then x (txt_behind bytes end)) one ∙ ap (λ x. and_then x (with_string s)) more

-- ---- bytes and numbers up to an end

bytes_stand : (n : ℕ) (bytes : List ℕ) (at end : ℕ) → end ≤ length bytes → IfOk (bytes_within n bytes at end) (λ x. IsAt bytes at x.0 x.1 × (length x.0 ≡ n))
bytes_stand n bytes at end fits =
    test_read (λ x. IsAt bytes at x.0 x.1 × (length x.0 ≡ n)) (nat_lt end (at + n)) (Err BadRdataLength) (Ok (slice_range bytes at (at + n), at + n)) (λ _. tt)
    (λ over. let reach : at + n ≤ end = grind (arith, nat_tests) in range_stands bytes at n (omega arith))

bytes_read : (n : ℕ) (bytes : List ℕ) (at end : ℕ) (text : List ℕ) (past : ℕ) → IsAt bytes at text past → length text ≡ n → past ≤ end
    → bytes_within n bytes at end ≡ Ok (text, past)
bytes_read n bytes at end text past h long within =
    let e = h.last in
    let a : nat_lt end (at + n) ≡ false = grind (arith, nat_tests) in
    let is = range_takes bytes at n text past h long in
    let last : at + n ≡ past = omega arith in
    test_no (nat_lt end (at + n)) (Err BadRdataLength) _ a ∙ (λ i. Ok (is i, last i))

two_stand : (bytes : List ℕ) (at end : ℕ) → AreSmall bytes → end ≤ length bytes
    → IfOk (two_within bytes at end) (λ x. IsAt bytes at (bytes_high_first 2 x.0) x.1 × (x.0 < 65536))
two_stand bytes at end small fits =
    test_read (λ x. IsAt bytes at (bytes_high_first 2 x.0) x.1 × (x.0 < 65536)) (nat_lt end (at + 2)) (Err BadRdataLength) (Ok (two_at bytes at, at + 2)) (λ _. tt)
    (λ over. let reach : at + 2 ≤ end = grind (arith, nat_tests) in (two_stands bytes at small (omega arith), two_small bytes at small))

-- ---- the types

-- Data of a type that stand there.
abbrev pub IsForm : List ℕ → RType → ℕ → Datum × ℕ → Type 0
IsForm bytes kind at found = FlatsAt bytes at (data_flats found.0) found.1 × FitsRdata found.0 × (type_of found.0 ≡ type_number kind)

abbrev IsNameTo : List ℕ → ℕ → ℕ → List (List ℕ) × ℕ → Type 0
IsNameTo bytes at end found = NameAt bytes at found.0 found.1 × (found.1 ≤ end)

soa_stands : (bytes : List ℕ) (at end : ℕ) → AreSmall bytes → end ≤ length bytes → IfOk (form_at served.Soa bytes at end) (IsForm bytes served.Soa at)
soa_stands bytes at end small fits =
    then_read (IsNameTo bytes at end) (IsForm bytes served.Soa at) (name_within bytes at end) (soa_behind bytes end) (name_stands bytes rdata_faults end at small fits)
    (λ p first. then_read (IsNameTo bytes p.1 end) (IsForm bytes served.Soa at) (name_within bytes p.1 end) (soa_numbers bytes end p.0)
    (name_stands bytes rdata_faults end p.1 small fits)
    (λ m second. test_read (IsForm bytes served.Soa at) (nat_lt end (m.1 + 20)) (Err BadRdataLength) _ (λ _. tt)
    (λ over.
    let reach : m.1 + 20 ≤ end = grind (arith, nat_tests) in
    let n = m.1 in
    let four : (k next : ℕ) → n + k + 4 ≤ length bytes → n + k + 4 ≡ next → IsAt bytes (n + k) (bytes_high_first 4 (four_at bytes (n + k))) next =
    λ k next inside e. at-along bytes (n + k) (n + k) _ (n + k + 4) next (four_stands bytes (n + k) small inside) refl e in (
      (
        p.1,
        first.0,
        (
          n,
          second.0,
          (
            n + 4,
            four_stands bytes n small (omega arith),
            (
              n + 8,
              four 4 (n + 8) (omega arith) (omega arith),
              (
                n + 12,
                four 8 (n + 12) (omega arith) (omega arith),
                (n + 16, four 12 (n + 16) (omega arith) (omega arith), (n + 20, four 16 (n + 20) (omega arith) (omega arith), refl)),
              ),
            ),
          ),
        ),
      ),
      (four_small bytes n small, four_small bytes (n + 4) small, four_small bytes (n + 8) small, four_small bytes (n + 12) small, four_small bytes (n + 16) small),
      refl,
    ))))

srv_stands : (bytes : List ℕ) (at end : ℕ) → AreSmall bytes → end ≤ length bytes → IfOk (form_at served.Srv bytes at end) (IsForm bytes served.Srv at)
srv_stands bytes at end small fits =
    test_read (IsForm bytes served.Srv at) (nat_lt end (at + 6)) (Err BadRdataLength) _ (λ _. tt)
    (λ over.
    let reach : at + 6 ≤ end = grind (arith, nat_tests) in
    let two : (k next : ℕ) → at + k + 2 ≤ length bytes → at + k + 2 ≡ next → IsAt bytes (at + k) (bytes_high_first 2 (two_at bytes (at + k))) next =
    λ k next inside e. at-along bytes (at + k) (at + k) _ (at + k + 2) next (two_stands bytes (at + k) small inside) refl e in
    then_read (λ x. FullAt bytes (at + 6) x.0 x.1 × (x.1 ≤ end)) (IsForm bytes served.Srv at) (full_name_at bytes rdata_faults end (at + 6))
    (as_srv (two_at bytes at) (two_at bytes (at + 2)) (two_at bytes (at + 4))) (full_stands bytes rdata_faults end (at + 6) small fits)
    (λ x h. (
      (at + 2, two_stands bytes at small (omega arith), (at + 4, two 2 (at + 4) (omega arith) (omega arith), (at + 6, two 4 (at + 6) (omega arith) (omega arith), (x.1, h.0, refl)))),
      (two_small bytes at small, two_small bytes (at + 2) small, two_small bytes (at + 4) small),
      refl,
    )))

form_stands : (kind : RType) (bytes : List ℕ) (at end : ℕ) → AreSmall bytes → end ≤ length bytes → IfOk (form_at kind bytes at end) (IsForm bytes kind at)
form_stands served.A bytes at end small fits =
    then_read (λ x. IsAt bytes at x.0 x.1 × (length x.0 ≡ 4)) (IsForm bytes served.A at) (bytes_within 4 bytes at end) as_ipv4 (bytes_stand 4 bytes at end fits)
    (λ x h. ((x.1, h.0, refl), h.1, refl))
form_stands served.Ns bytes at end small fits =
    then_read (IsNameTo bytes at end) (IsForm bytes served.Ns at) (name_within bytes at end) as_ns (name_stands bytes rdata_faults end at small fits)
    (λ x h. ((x.1, h.0, refl), tt, refl))
form_stands served.Cname bytes at end small fits =
    then_read (IsNameTo bytes at end) (IsForm bytes served.Cname at) (name_within bytes at end) as_cname (name_stands bytes rdata_faults end at small fits)
    (λ x h. ((x.1, h.0, refl), tt, refl))
form_stands served.Soa bytes at end small fits = soa_stands bytes at end small fits
form_stands served.Ptr bytes at end small fits =
    then_read (IsNameTo bytes at end) (IsForm bytes served.Ptr at) (name_within bytes at end) as_ptr (name_stands bytes rdata_faults end at small fits)
    (λ x h. ((x.1, h.0, refl), tt, refl))
form_stands served.Mx bytes at end small fits =
    then_read (λ x. IsAt bytes at (bytes_high_first 2 x.0) x.1 × (x.0 < 65536)) (IsForm bytes served.Mx at) (two_within bytes at end) (mx_behind bytes end)
    (two_stand bytes at end small fits)
    (λ p h. then_read (IsNameTo bytes p.1 end) (IsForm bytes served.Mx at) (name_within bytes p.1 end) (as_mx p.0) (name_stands bytes rdata_faults end p.1 small fits)
    (λ x k. ((p.1, h.0, (x.1, k.0, refl)), h.1, refl)))
form_stands served.Txt bytes at end small fits =
    then_read (AreTexts bytes at end) (IsForm bytes served.Txt at) (texts_at bytes at end) (as_txt end) (texts_stand bytes at end small fits)
    (λ ss h. ((end, h.0, refl), (h.1, h.2), refl))
form_stands served.Aaaa bytes at end small fits =
    then_read (λ x. IsAt bytes at x.0 x.1 × (length x.0 ≡ 16)) (IsForm bytes served.Aaaa at) (bytes_within 16 bytes at end) as_ipv6 (bytes_stand 16 bytes at end fits)
    (λ x h. ((x.1, h.0, refl), h.1, refl))
form_stands served.Srv bytes at end small fits = srv_stands bytes at end small fits

-- Data of a type that fill these bytes.
abbrev pub IsValue : List ℕ → RType → ℕ → ℕ → Datum → Type 0
IsValue bytes kind at end value = FlatsAt bytes at (data_flats value) end × FitsRdata value × (type_of value ≡ type_number kind)

pub value_stands : (kind : RType) (bytes : List ℕ) (at end : ℕ) → AreSmall bytes → end ≤ length bytes → IfOk (value_at kind bytes at end) (IsValue bytes kind at end)
unfolding value_at
value_stands kind bytes at end small fits =
    then_read (IsForm bytes kind at) (IsValue bytes kind at end) (form_at kind bytes at end) (whole end) (form_stands kind bytes at end small fits)
    (λ x h. test_read (IsValue bytes kind at end) (nat_eq x.1 end) (Ok x.0) (Err BadRdataLength)
    (λ same.
    let e : x.1 ≡ end = grind (arith, nat_tests) in
    (subst (λ (n : ℕ). FlatsAt bytes at (data_flats x.0) n) e h.0, h.1, h.2))
    (λ _. tt))

-- ---- what stands is read

abbrev pub kind_of : Datum → RType
kind_of (Ipv4 a) = served.A
kind_of (Ns n) = served.Ns
kind_of (Cname n) = served.Cname
kind_of (Soa s) = served.Soa
kind_of (Ptr n) = served.Ptr
kind_of (Mx p n) = served.Mx
kind_of (Txt ts) = served.Txt
kind_of (Ipv6 a) = served.Aaaa
kind_of (Srv s) = served.Srv

-- Data that stand end with the message at the latest.
pub data_within : (d : Datum) (bytes : List ℕ) (at end : ℕ) → FlatsAt bytes at (data_flats d) end → end ≤ length bytes
data_within (Ipv4 a) bytes at end h = let t = h.1.there in let e = h.1.last in let f = h.2 in omega arith
data_within (Ns n) bytes at end h = let t = (name_within_bytes bytes at n h.0 h.1).1 in let f = h.2 in omega arith
data_within (Cname n) bytes at end h = let t = (name_within_bytes bytes at n h.0 h.1).1 in let f = h.2 in omega arith
data_within (Soa s) bytes at end h =
    let t = h.2.2.2.2.2.2.1.there in
    let e = h.2.2.2.2.2.2.1.last in
    let f = h.2.2.2.2.2.2.2 in
    omega arith
data_within (Ptr n) bytes at end h = let t = (name_within_bytes bytes at n h.0 h.1).1 in let f = h.2 in omega arith
data_within (Mx p n) bytes at end h = let t = (name_within_bytes bytes h.0 n h.2.0 h.2.1).1 in let f = h.2.2 in omega arith
data_within (Txt ts) bytes at end h = let t = h.1.there in let e = h.1.last in let f = h.2 in omega arith
data_within (Ipv6 a) bytes at end h = let t = h.1.there in let e = h.1.last in let f = h.2 in omega arith
data_within (Srv s) bytes at end h = let t = (full_within_bytes bytes h.2.2.0 s.target h.2.2.2.0 h.2.2.2.1).1 in let f = h.2.2.2.2 in omega arith

name_form : (bytes : List ℕ) (at end : ℕ) (name : List (List ℕ)) (mid : ℕ) → NameAt bytes at name mid → end ≤ length bytes → mid ≤ end
    → name_within bytes at end ≡ Ok (name, mid)
name_form bytes at end name mid h fits within = name_read bytes rdata_faults end at name mid h fits within

soa_read : (s : Authority) (bytes : List ℕ) (at end : ℕ) → FitsRdata (Soa s) → FlatsAt bytes at (data_flats (Soa s)) end → end ≤ length bytes
    → form_at served.Soa bytes at end ≡ Ok (Soa s, end)
soa_read s bytes at end is h fits =
    let n = h.2.0 in
    let l1 = h.2.2.1.last in
    let l2 = h.2.2.2.1.last in
    let l3 = h.2.2.2.2.1.last in
    let l4 = h.2.2.2.2.2.1.last in
    let l5 = h.2.2.2.2.2.2.1.last in
    let l6 = h.2.2.2.2.2.2.2 in
    let later = (name_within_bytes bytes h.0 s.mailbox n h.2.1).0 in
    let past : n + 20 ≡ end = omega arith in
    let first = name_form bytes at end s.primary h.0 h.1 fits (omega arith) in
    let second = name_form bytes h.0 end s.mailbox n h.2.1 fits (omega arith) in
    let n1 = four_takes bytes n n s.serial h.2.2.0 h.2.2.1 refl is.0 in
    let n2 = four_takes bytes (n + 4) h.2.2.0 s.refresh h.2.2.2.0 h.2.2.2.1 (omega arith) is.1 in
    let n3 = four_takes bytes (n + 8) h.2.2.2.0 s.retry h.2.2.2.2.0 h.2.2.2.2.1 (omega arith) is.2 in
    let n4 = four_takes bytes (n + 12) h.2.2.2.2.0 s.expire h.2.2.2.2.2.0 h.2.2.2.2.2.1 (omega arith) is.3 in
    let n5 = four_takes bytes (n + 16) h.2.2.2.2.2.0 s.minimum h.2.2.2.2.2.2.0 h.2.2.2.2.2.2.1 (omega arith) is.4 in
    let a : nat_lt end (n + 20) ≡ false = grind (arith, nat_tests) in
    ap (λ x. and_then x (soa_behind bytes end)) first ∙ (ap (λ x. and_then x (soa_numbers bytes end s.primary)) second
    ∙ (test_no (nat_lt end (n + 20)) (Err BadRdataLength) _ a ∙ (λ i. Ok (
      Soa (record { primary = s.primary; mailbox = s.mailbox; serial = n1 i; refresh = n2 i; retry = n3 i; expire = n4 i; minimum = n5 i }),
      past i,
    ))))

srv_read : (s : Service) (bytes : List ℕ) (at end : ℕ) → FitsRdata (Srv s) → FlatsAt bytes at (data_flats (Srv s)) end → end ≤ length bytes
    → form_at served.Srv bytes at end ≡ Ok (Srv s, end)
srv_read s bytes at end is h fits =
    let e = h.2.2.2.2 in
    let l1 = h.1.last in
    let l2 = h.2.1.last in
    let l3 = h.2.2.1.last in
    let later = (full_within_bytes bytes h.2.2.0 s.target h.2.2.2.0 h.2.2.2.1).0 in
    let place : h.2.2.0 ≡ at + 6 = omega arith in
    let there = subst (λ (n : ℕ). FullAt bytes n s.target h.2.2.2.0) place h.2.2.2.1 in
    let name = full_read bytes rdata_faults end (at + 6) s.target h.2.2.2.0 there fits (omega arith) in
    let n1 = two_takes bytes at at s.priority h.0 h.1 refl is.0 in
    let n2 = two_takes bytes (at + 2) h.0 s.weight h.2.0 h.2.1 (omega arith) is.1 in
    let n3 = two_takes bytes (at + 4) h.2.0 s.port h.2.2.0 h.2.2.1 (omega arith) is.2 in
    let a : nat_lt end (at + 6) ≡ false = grind (arith, nat_tests) in
    test_no (nat_lt end (at + 6)) (Err BadRdataLength) _ a ∙ (ap (λ x. and_then x (as_srv (two_at bytes at) (two_at bytes (at + 2)) (two_at bytes (at + 4)))) name
    ∙ (λ i. Ok (Srv (record { priority = n1 i; weight = n2 i; port = n3 i; target = s.target }), sym e i)))

form_read : (d : Datum) (bytes : List ℕ) (at end : ℕ) → FitsRdata d → FlatsAt bytes at (data_flats d) end → end ≤ length bytes → form_at (kind_of d) bytes at end ≡ Ok (d, end)
form_read (Ipv4 a) bytes at end is h fits =
    let e = h.2 in
    ap (λ x. and_then x as_ipv4) (bytes_read 4 bytes at end a h.0 h.1 is (omega arith)) ∙ (λ i. Ok (Ipv4 a, sym e i))
form_read (Ns n) bytes at end is h fits =
    let e = h.2 in
    ap (λ x. and_then x as_ns) (name_form bytes at end n h.0 h.1 fits (omega arith)) ∙ (λ i. Ok (Ns n, sym e i))
form_read (Cname n) bytes at end is h fits =
    let e = h.2 in
    ap (λ x. and_then x as_cname) (name_form bytes at end n h.0 h.1 fits (omega arith)) ∙ (λ i. Ok (Cname n, sym e i))
form_read (Soa s) bytes at end is h fits = soa_read s bytes at end is h fits
form_read (Ptr n) bytes at end is h fits =
    let e = h.2 in
    ap (λ x. and_then x as_ptr) (name_form bytes at end n h.0 h.1 fits (omega arith)) ∙ (λ i. Ok (Ptr n, sym e i))
form_read (Mx p n) bytes at end is h fits =
    let e = h.2.2 in
    let l = h.1.last in
    let later = (name_within_bytes bytes h.0 n h.2.0 h.2.1).0 in
    let a : nat_lt end (at + 2) ≡ false = grind (arith, nat_tests) in
    let number = two_takes bytes at at p h.0 h.1 refl is in
    let two : two_within bytes at end ≡ Ok (p, h.0) = test_no (nat_lt end (at + 2)) (Err BadRdataLength) _ a ∙ (λ i. Ok (number i, sym l i)) in
    ap (λ x. and_then x (mx_behind bytes end)) two ∙ (ap (λ x. and_then x (as_mx p)) (name_form bytes h.0 end n h.2.0 h.2.1 fits (omega arith)) ∙ (λ i. Ok (Mx p n, sym e i)))
form_read (Txt ts) bytes at end is h fits =
    let e = h.2 in
    ap (λ x. and_then x (as_txt end)) (texts_read ts bytes at end (at-along bytes at at (strings_bytes ts) h.0 end h.1 refl (sym e)) is.0)
form_read (Ipv6 a) bytes at end is h fits =
    let e = h.2 in
    ap (λ x. and_then x as_ipv6) (bytes_read 16 bytes at end a h.0 h.1 is (omega arith)) ∙ (λ i. Ok (Ipv6 a, sym e i))
form_read (Srv s) bytes at end is h fits = srv_read s bytes at end is h fits

pub value_read : (d : Datum) (bytes : List ℕ) (at end : ℕ) → FitsRdata d → FlatsAt bytes at (data_flats d) end → end ≤ length bytes → value_at (kind_of d) bytes at end ≡ Ok d
unfolding value_at
value_read d bytes at end is h fits =
    let a : nat_eq end end ≡ true = grind (arith, nat_tests) in
    ap (λ x. and_then x (whole end)) (form_read d bytes at end is h fits) ∙ test_yes (nat_eq end end) (Ok d) (Err BadRdataLength) a
