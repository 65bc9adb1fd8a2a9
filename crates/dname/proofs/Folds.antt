-- Wire forms in any letters, and in lower case.
use Rattle.std.proofs.Common.{◌≡◌, ℕ, suc, ◌<◌, List, [], ◌∷◌, ◌++◌, length, map, get_or, sym, ◌∙◌, ap, subst, arith, refl}
use Rattle.std.proofs.lemmas.Bool.Decides.{nat_tests}
use Rattle.std.proofs.lemmas.List.{map-append, length-map}
use Rattle.std.specs.Char.{to_ascii_lowercase}
use Rattle.dname.specs.Labels.{wire, folded, folded_label, folded_labels, AreFolded, AreLabels, AreSpelled}
use Rattle.dname.specs.Wire.{labels_of, IsWire, IsSpellingWire}
use Rattle.dname.specs.Laws.{labels_of-wire}
use Rattle.dname.proofs.Drafts.{Names, folded_twice, folded_fits}
use Rattle.dname.proofs.Split.{wire_is}

lower_is : (b : ℕ) → to_ascii_lowercase b ≡ folded b
lower_is b = grind (arith, nat_tests)

lower_all : (bs : List ℕ) → map to_ascii_lowercase bs ≡ map folded bs
lower_all [] = refl
lower_all (b ∷ bs) = λ i. lower_is b i ∷ lower_all bs i

-- A length byte is no letter.
size_stays : (n : ℕ) → n < 64 → folded n ≡ n
size_stays n few = grind (arith, nat_tests)

fold_one : (l : List ℕ) (ls : List (List ℕ)) → length l < 64 → map folded (wire ls) ≡ wire (folded_labels ls) → map folded (wire (l ∷ ls)) ≡ wire (folded_labels (l ∷ ls))
fold_one l ls few rest =
    let head : folded (length l) ≡ length (folded_label l) = size_stays (length l) few ∙ sym (length-map l folded) in
    let tail : map folded (l ++ wire ls) ≡ folded_label l ++ wire (folded_labels ls) = map-append folded l (wire ls) ∙ ap (λ (x : List ℕ). folded_label l ++ x) rest in
    λ i. head i ∷ tail i

wire_folds : (ls : List (List ℕ)) → AreSpelled ls → map folded (wire ls) ≡ wire (folded_labels ls)
wire_folds [] h = refl
wire_folds (l ∷ []) h = let none : length l ≡ 0 = ap length h in fold_one l [] (omega (arith, none)) refl
wire_folds (l ∷ m ∷ ls) h = fold_one l (m ∷ ls) h.1 (wire_folds (m ∷ ls) h.2)

abbrev AreBytes : List ℕ → Type 0
AreBytes [] = Unit {0}
AreBytes (b ∷ bs) = (b < 256) × AreBytes bs

bytes_each : (bs : List ℕ) → ((i : ℕ) → get_or bs i 0 < 256) → AreBytes bs
bytes_each [] h = tt
bytes_each (b ∷ bs) h = (h 0, bytes_each bs (λ i. h (suc i)))

bytes_split : (a b : List ℕ) → AreBytes (a ++ b) → AreBytes a × AreBytes b
bytes_split [] b h = (tt, h)
bytes_split (x ∷ a) b h = let rest = bytes_split a b h.1 in ((h.0, rest.0), rest.1)

label_folds : (l : List ℕ) → AreBytes l → AreFolded (folded_label l)
label_folds [] h = tt
label_folds (b ∷ l) h = (folded_fits b h.0, folded_twice b, label_folds l h.1)

labels_fold : (ls : List (List ℕ)) → AreSpelled ls → AreBytes (wire ls) → AreLabels (folded_labels ls)
labels_fold [] h few = h
labels_fold (l ∷ []) h few = ap folded_label h
labels_fold (l ∷ m ∷ ls) h few =
    let parts = bytes_split l (wire (m ∷ ls)) few.1 in
    let long : length (folded_label l) ≡ length l = length-map l folded in
    (record { nonempty = omega (arith, h.0, long); short = omega (arith, h.1, long); bytes = label_folds l parts.0 }, labels_fold (m ∷ ls) h.2 parts.1)

-- A spelling in lower case is a name.
pub lower_names : (letters bytes : List ℕ) → IsSpellingWire letters → ((i : ℕ) → get_or letters i 0 < 256) → bytes ≡ map to_ascii_lowercase letters → Names bytes (folded_labels (labels_of letters))
lower_names letters bytes is few lower =
    let ls = labels_of letters in
    let each : AreBytes (wire ls) = subst AreBytes (sym is.bytes) (bytes_each letters few) in
    let whole : bytes ≡ wire (folded_labels ls) = lower ∙ (lower_all letters ∙ (ap (map folded) (sym is.bytes) ∙ wire_folds ls is.labels)) in
    let long : length bytes ≡ length letters = ap length lower ∙ length-map letters to_ascii_lowercase in
    record {
      good = record { wire = subst IsWire (sym whole) (wire_is (folded_labels ls) (labels_fold ls is.labels each)); short = omega (arith, long, is.short) };
      same = ap labels_of whole ∙ labels_of-wire (folded_labels ls);
    }
