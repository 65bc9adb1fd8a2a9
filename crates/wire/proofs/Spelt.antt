-- Letters in wire form, and the name that they spell.
use Rattle.std.proofs.Common.{◌≡◌, ℕ, ◌<◌, Bool, List, [], ◌∷◌, ◌++◌, length, map, get_or, Result, Ok, Err, IsOk, refl, sym, ◌∙◌, ap, subst, arith}
use Rattle.std.specs.Prelude.{IsTrue}
use Rattle.std.specs.Cmp.{both_ways}
use Rattle.std.specs.Char.{to_ascii_lowercase}
use Rattle.std.proofs.lemmas.Bool.Decides.{nat_tests}
use Rattle.std.proofs.lemmas.List.{map-append}
use Rattle.dname.specs.Labels.{wire, folded, folded_labels, same_name, AreFolded, AreLabels}
use Rattle.dname.specs.Laws.{labels_of-wire, same_name-exact, same_name-equal}
use Rattle.dname.specs.Wire.{labels_of, IsSpellingWire}
use Rattle.dname.proofs.Folds.{lower_names}
use Rattle.wire.specs.declared.error.WireError.{WireError}
use Rattle.wire.specs.Parts.{message_faults, spelt_before, in_lower_case, name_at}
use Rattle.wire.specs.Results.{and_then}
use Rattle.wire.specs.Spellings.{spelt_by}
use Rattle.wire.specs.Views.{labels_in}

-- ---- a name's own letters

lower_is : (b : ℕ) → to_ascii_lowercase b ≡ folded b
lower_is b = grind (arith, nat_tests)

size_stays : (n : ℕ) → n < 64 → to_ascii_lowercase n ≡ n
size_stays n few = grind (arith, nat_tests)

label_stays : (l : List ℕ) → AreFolded l → map to_ascii_lowercase l ≡ l
label_stays [] h = refl
label_stays (b ∷ l) h = let first = lower_is b ∙ h.1 in let rest = label_stays l h.2 in λ i. first i ∷ rest i

wire_stays : (ls : List (List ℕ)) → AreLabels ls → map to_ascii_lowercase (wire ls) ≡ wire ls
wire_stays [] h = absurd h
wire_stays (l ∷ []) h = subst (λ (x : List ℕ). map to_ascii_lowercase (wire (x ∷ [])) ≡ wire (x ∷ [])) (sym h) refl
wire_stays (l ∷ m ∷ ls) h =
    let label = h.0 in
    let size = size_stays (length l) label.short in
    let rest : map to_ascii_lowercase (l ++ wire (m ∷ ls)) ≡ l ++ wire (m ∷ ls) =
    map-append to_ascii_lowercase l (wire (m ∷ ls)) ∙ (λ i. label_stays l label.bytes i ++ wire_stays (m ∷ ls) h.1 i) in
    λ i. size i ∷ rest i

-- Letters spell the name whose wire form they are but for the case of letters.
pub spells : (letters form : List ℕ) (name : List (List ℕ)) (b : Bool) → IsSpellingWire letters → ((i : ℕ) → get_or letters i 0 < 256) → AreLabels name → form ≡ wire name
    → (IsTrue b → map to_ascii_lowercase form ≡ map to_ascii_lowercase letters) → (map to_ascii_lowercase form ≡ map to_ascii_lowercase letters → IsTrue b)
    → b ≡ same_name (folded_labels (labels_of letters)) name
spells letters form name b is small labels form_is from back =
    let lower = map to_ascii_lowercase letters in
    let spelt = folded_labels (labels_of letters) in
    let names = lower_names letters lower is small refl in
    let own : map to_ascii_lowercase form ≡ wire name = ap (map to_ascii_lowercase) form_is ∙ wire_stays name labels in
    let spelling : lower ≡ wire spelt = sym names.good.wire.bytes ∙ ap wire names.same in
    both_ways b (same_name spelt name)
    (λ t. same_name-equal spelt name (sym names.same ∙ (ap labels_of (sym (from t) ∙ own) ∙ labels_of-wire name)))
    (λ t. back (own ∙ (ap wire (sym (same_name-exact spelt name t)) ∙ sym spelling)))

-- ---- the name that a walk over its letters finds

by_letters : (letters : List ℕ) (end : ℕ) (r : Result (List (List ℕ) × ℕ) WireError) → spelt_by letters (Ok end) ≡ r
    → labels_in (and_then r in_lower_case) ≡ folded_labels (labels_of letters)
by_letters letters end r h = sym (ap (λ x. labels_in (and_then x in_lower_case)) h)

pub name_by : (bytes letters : List ℕ) (at end : ℕ) → spelt_by letters (Ok end) ≡ spelt_before bytes message_faults (length bytes) at at
    → labels_in (name_at bytes message_faults (length bytes) at) ≡ folded_labels (labels_of letters)
unfolding name_at
name_by bytes letters at end h = by_letters letters end (spelt_before bytes message_faults (length bytes) at at) h

not_ok : (letters : List ℕ) (e : WireError) (r : Result (List (List ℕ) × ℕ) WireError) → spelt_by letters (Err e) ≡ r → IsOk (and_then r in_lower_case) → ⊥
not_ok letters e r h k = let no : IsOk (and_then (spelt_by letters (Err e)) in_lower_case) = subst (λ x. IsOk (and_then x in_lower_case)) (sym h) k in cc

pub no_name_by : (bytes letters : List ℕ) (at : ℕ) (e : WireError) → spelt_by letters (Err e) ≡ spelt_before bytes message_faults (length bytes) at at
    → IsOk (name_at bytes message_faults (length bytes) at) → ⊥
unfolding name_at
no_name_by bytes letters at e h k = not_ok letters e (spelt_before bytes message_faults (length bytes) at at) h k
