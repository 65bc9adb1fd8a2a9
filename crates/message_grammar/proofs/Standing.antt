-- What is written stands: a packed name, a name in full, and their notes.
use Rattle.std.proofs.Common.{◌≡◌, ℕ, ◌+◌, ◌/◌, ◌%◌, ◌<◌, ◌≤◌, Bool, true, false, List, [], ◌∷◌, ◌++◌, length, take, drop, Option, Some, None, refl, sym, ◌∙◌, ap, subst, arith, length-append, append_assoc}
use Rattle.std.specs.Prelude.{slice_get, nat_lt, if◌then◌else◌}
use Rattle.std.specs.List.{AllByRecursion}
use Rattle.std.specs.Cmp.Lexicographic.{bytes_decides}
use Rattle.std.proofs.Math.Seq.{drop-append_seam, take-append_seam, drop-append-add}
use Rattle.std.proofs.lemmas.Bool.Decides.{nat_tests}
use Rattle.dname.specs.Labels.{folded_label, folded_labels, wire, same_name, IsLabel, AreLabels, AreSpelled, AreFolded}
use Rattle.message_grammar.specs.Names.{IsLabelAt, IsPointerAt, Stands, root_here, label_here, pointer_here, as_written}
use Rattle.message_grammar.specs.Packing.{Note, find, pointer, pointer_or, packed, noted, notes_or, packed_notes, full_notes}
use Rattle.message_grammar.proofs.Reading.{folds_to, folded_long}
use Rattle.message_grammar.proofs.Growing.{stands-grown}

-- ---- the place behind a text

pub get_behind : (pre rest : List ℕ) (b : ℕ) → slice_get (pre ++ b ∷ rest) (length pre) ≡ Some b
get_behind [] rest b = refl
get_behind (x ∷ pre) rest b = get_behind pre rest b

get_next : (pre rest : List ℕ) (a b : ℕ) → slice_get (pre ++ a ∷ b ∷ rest) (length pre + 1) ≡ Some b
get_next pre rest a b =
    let h = get_behind (pre ++ a ∷ []) rest b in
    let e = append_assoc pre (a ∷ []) (b ∷ rest) in
    let n : length (pre ++ a ∷ []) ≡ length pre + 1 = length-append pre (a ∷ []) in
    cc

pub label_behind : (pre l rest : List ℕ) → 0 < length l → length l < 64 → IsLabelAt (pre ++ length l ∷ (l ++ rest)) (length pre) l
label_behind pre l rest some few = record {
  head = get_behind pre (l ++ rest) (length l);
  nonempty = some;
  short = few;
  there = omega (arith, length-append pre (length l ∷ (l ++ rest)), length-append l rest);
  text = ap (take (length l)) (drop-append-add pre (length l ∷ (l ++ rest)) 1) ∙ take-append_seam l rest;
}

pub pointer_behind : (pre : List ℕ) (place : ℕ) → place < 16384 → IsPointerAt (pre ++ pointer place) (length pre) place
pointer_behind pre place reach = record {
  high = place / 256;
  low = place % 256;
  first = get_behind pre (place % 256 ∷ []) (192 + place / 256);
  second = get_next pre [] (192 + place / 256) (place % 256);
  fits = omega arith;
  is = omega arith;
}

pub stands-along : (f : List ℕ → List ℕ) (bytes text : List ℕ) (start at place end last : ℕ) (labels : List (List ℕ))
    → Stands f bytes start at labels end → bytes ≡ text → at ≡ place → end ≡ last → Stands f text start place labels last
stands-along f bytes text start at place end last labels h b a e =
    let P : List ℕ → Type 0 = λ x. Stands f x start place labels last in
    let Q : ℕ → Type 0 = λ x. Stands f bytes start x labels last in
    let R : ℕ → Type 0 = λ x. Stands f bytes start at labels x in
    subst P b (subst Q a (subst R e h))

pub folds_same : (l : List ℕ) → AreFolded l → folded_label l ≡ l
folds_same [] h = refl
folds_same (b ∷ l) h =
    let first = h.1 in
    let rest = folds_same l h.2 in
    cc

-- ---- notes that stand

pub record Stood (bytes : List ℕ) (limit : ℕ) (n : Note) : Type 0 where
  pub reach : n.place < 16384
  pub before : n.place < limit
  pub end : ℕ
  pub stands : Stands folded_label bytes n.place n.place n.suffix end

abbrev pub AllStood : List ℕ → ℕ → List Note → Type 0
AllStood bytes limit notes = AllByRecursion (Stood bytes limit) notes

pub stood-grown : (bytes more : List ℕ) (limit later : ℕ) (notes : List Note) → AllStood bytes limit notes → limit ≤ later → AllStood (bytes ++ more) later notes
stood-grown bytes more limit later [] h le = tt
stood-grown bytes more limit later (n ∷ notes) (first, rest) le =
    let b = first.before in (
      record {
        reach = first.reach;
        before = omega arith;
        end = first.end;
        stands = stands-grown folded_label bytes more n.place n.place first.end n.suffix first.stands;
      },
      stood-grown bytes more limit later notes rest le,
    )

pub stood-append : (bytes : List ℕ) (limit : ℕ) (notes later : List Note) → AllStood bytes limit notes → AllStood bytes limit later
    → AllStood bytes limit (notes ++ later)
stood-append bytes limit [] later h k = k
stood-append bytes limit (n ∷ notes) later (first, rest) k = (first, stood-append bytes limit notes later rest k)

pub stood-along : (bytes text : List ℕ) (notes later : List Note) → AllStood bytes (length bytes) notes → bytes ≡ text → notes ≡ later → AllStood text (length text) later
stood-along bytes text notes later h b n =
    let P : List ℕ → Type 0 = λ x. AllStood x (length x) later in
    let Q : List Note → Type 0 = λ x. AllStood bytes (length bytes) x in
    subst P b (subst Q n h)

pub wire-onto : (a b : List (List ℕ)) → wire a ≡ wire b → a ≡ b
wire-onto [] [] h = refl
wire-onto [] (l ∷ b) h = cc
wire-onto (l ∷ a) [] h = cc
wire-onto (l ∷ a) (m ∷ b) h =
    let long : length l ≡ length m = cc in
    let behind : l ++ wire a ≡ m ++ wire b = cc in
    let head : l ≡ m = sym (take-append_seam l (wire a)) ∙ (ap (take (length l)) behind ∙ (ap (λ n. take n (m ++ wire b)) long ∙ take-append_seam m (wire b))) in
    let rest : wire a ≡ wire b = sym (drop-append_seam l (wire a)) ∙ (ap (drop (length l)) behind ∙ (ap (λ n. drop n (m ++ wire b)) long ∙ drop-append_seam m (wire b))) in
    let tail = wire-onto a b rest in
    cc

pub same_suffix : (a b : List (List ℕ)) → same_name a b ≡ true → a ≡ b
same_suffix a b e = wire-onto a b ((bytes_decides (wire a) (wire b)).0 e)

-- What is said of each note is said of the one that is found.
pub found : (P : Note → Type 0) (notes : List Note) (name : List (List ℕ)) (p : ℕ) → AllByRecursion P notes → find notes name ≡ Some p
    → P (record { suffix = name; place = p })
found P [] name p h e = cc
found P (n ∷ notes) name p (first, others) e = by (same_name n.suffix name) refl e (λ k. found P notes name p others k)
  where
    by : (b : Bool) → same_name n.suffix name ≡ b → (if b then Some n.place else find notes name) ≡ Some p
        → (find notes name ≡ Some p → P (record { suffix = name; place = p })) → P (record { suffix = name; place = p })
    by true same at later =
        let s : n.suffix ≡ name = same_suffix n.suffix name same in
        let q : n.place ≡ p = cc in
        let whole : n ≡ record { suffix = name; place = p } = λ i. record { suffix = s i; place = q i } in
        subst P whole first
    by false same at later = later at

-- ---- a packed name

packed_step : (notes : List Note) (l : List ℕ) (tail : List (List ℕ)) (pre : List ℕ) (start limit : ℕ) → limit ≤ start → AllStood pre limit notes
    → IsLabel l → (text : List ℕ)
    → Stands folded_label ((pre ++ length l ∷ l) ++ text) start (length (pre ++ length l ∷ l)) tail (length (pre ++ length l ∷ l) + length text)
    → (o : Option ℕ) → find notes (l ∷ tail) ≡ o
    → Stands folded_label (pre ++ pointer_or o (length l ∷ (l ++ text))) start (length pre) (l ∷ tail) (length pre + length (pointer_or o (length l ∷ (l ++ text))))
packed_step notes l tail pre start limit le stood label text inner None e =
    let n : length (pre ++ length l ∷ l) ≡ length pre + 1 + length l = omega (arith, length-append pre (length l ∷ l)) in
    let last : length (pre ++ length l ∷ l) + length text ≡ length pre + length (length l ∷ (l ++ text)) =
    omega (arith, length-append pre (length l ∷ l), length-append l text) in
    label_here start (length pre) (length pre + length (length l ∷ (l ++ text))) l l tail (label_behind pre l text label.nonempty label.short)
    (sym (folds_same l label.bytes))
    (stands-along folded_label _ _ start _ _ _ _ tail inner (append_assoc pre (length l ∷ l) text) n last)
packed_step notes l tail pre start limit le stood label text inner (Some p) e =
    let s = found (Stood pre limit) notes (l ∷ tail) p stood e in
    let b = s.before in
    pointer_here start (length pre) (length pre + 2) p s.end (l ∷ tail) (pointer_behind pre p s.reach) (omega arith)
    (stands-grown folded_label pre (pointer p) p p s.end (l ∷ tail) s.stands) refl

pub packed_stands : (notes : List Note) (name : List (List ℕ)) (pre : List ℕ) (start limit : ℕ) → limit ≤ start → AllStood pre limit notes
    → AreLabels name → Stands folded_label (pre ++ packed notes name) start (length pre) name (length pre + length (packed notes name))
packed_stands notes [] pre start limit le stood h = absurd h
packed_stands notes (l ∷ []) pre start limit le stood h =
    let P : List ℕ → Type 0 = λ x. Stands folded_label (pre ++ 0 ∷ []) start (length pre) (x ∷ []) (length pre + 1) in
    subst P (sym h) (root_here start (length pre) (length pre + 1) (get_behind pre [] 0) refl)
packed_stands notes (l ∷ m ∷ rest) pre start limit le stood h =
    let inner = packed_stands notes (m ∷ rest) (pre ++ length l ∷ l) start limit le
    (stood-grown pre (length l ∷ l) limit limit notes stood (omega arith)) h.1 in
    packed_step notes l (m ∷ rest) pre start limit le stood h.0 (packed notes (m ∷ rest)) inner (find notes (l ∷ m ∷ rest)) refl

-- Where nothing was noted a packed name is in full.
pub packed_full : (name : List (List ℕ)) → AreLabels name → packed [] name ≡ wire name
packed_full [] h = absurd h
packed_full (l ∷ []) h = λ i. wire (sym h i ∷ [])
packed_full (l ∷ m ∷ rest) h = ap (λ x. length l ∷ (l ++ x)) (packed_full (m ∷ rest) h.1)

-- ---- the notes of a packed name

note_first : (bytes : List ℕ) (at end : ℕ) (name : List (List ℕ)) (later : List Note) → at < length bytes → Stands folded_label bytes at at name end
    → AllStood bytes (length bytes) later → AllStood bytes (length bytes) (noted name at later)
note_first bytes at end name later within stands rest = by (nat_lt at 16384) refl
  where
    by : (b : Bool) → nat_lt at 16384 ≡ b → AllStood bytes (length bytes) (if b then record { suffix = name; place = at } ∷ later else [])
    by true test = (record { reach = grind (arith, nat_tests); before = within; end = end; stands = stands }, rest)
    by false test = tt

noted_step : (name : List (List ℕ)) (later : List Note) (pre text : List ℕ) (o : Option ℕ) → 0 < length text
    → Stands folded_label (pre ++ pointer_or o text) (length pre) (length pre) name (length pre + length (pointer_or o text))
    → AllStood (pre ++ text) (length (pre ++ text)) later
    → AllStood (pre ++ pointer_or o text) (length (pre ++ pointer_or o text)) (notes_or o (noted name (length pre) later))
noted_step name later pre text None some stands rest =
    note_first (pre ++ text) (length pre) (length pre + length text) name later (omega (arith, length-append pre text)) stands rest
noted_step name later pre text (Some p) some stands rest = tt

pub packed_noted : (notes : List Note) (name : List (List ℕ)) (pre : List ℕ) (limit : ℕ) → limit ≤ length pre → AllStood pre limit notes
    → AreLabels name → AllStood (pre ++ packed notes name) (length (pre ++ packed notes name)) (packed_notes notes (length pre) name)
packed_noted notes [] pre limit le stood h = absurd h
packed_noted notes (l ∷ []) pre limit le stood h = tt
packed_noted notes (l ∷ m ∷ rest) pre limit le stood h =
    let n : length (pre ++ length l ∷ l) ≡ length pre + 1 + length l = omega (arith, length-append pre (length l ∷ l)) in
    let inner = packed_noted notes (m ∷ rest) (pre ++ length l ∷ l) limit (omega arith) (stood-grown pre (length l ∷ l) limit limit notes stood (omega arith)) h.1 in
    let moved = stood-along _ (pre ++ length l ∷ (l ++ packed notes (m ∷ rest))) _ (packed_notes notes (length pre + 1 + length l) (m ∷ rest)) inner
    (append_assoc pre (length l ∷ l) (packed notes (m ∷ rest))) (ap (λ k. packed_notes notes k (m ∷ rest)) n) in
    noted_step (l ∷ m ∷ rest) _ pre (length l ∷ (l ++ packed notes (m ∷ rest))) (find notes (l ∷ m ∷ rest)) (omega arith)
    (packed_stands notes (l ∷ m ∷ rest) pre (length pre) limit le stood h) moved

-- ---- a name in full

pub full_stands : (labels : List (List ℕ)) (pre : List ℕ) (start : ℕ) → AreSpelled labels
    → Stands as_written (pre ++ wire labels) start (length pre) labels (length pre + length (wire labels))
full_stands [] pre start h = absurd h
full_stands (l ∷ []) pre start h =
    let P : List ℕ → Type 0 = λ x. Stands as_written (pre ++ wire (x ∷ [])) start (length pre) (x ∷ []) (length pre + length (wire (x ∷ []))) in
    subst P (sym h) (root_here start (length pre) (length pre + 1) (get_behind pre [] 0) refl)
full_stands (l ∷ m ∷ rest) pre start (some, few, h) =
    let text = wire (m ∷ rest) in
    let n : length (pre ++ length l ∷ l) ≡ length pre + 1 + length l = omega (arith, length-append pre (length l ∷ l)) in
    let last : length (pre ++ length l ∷ l) + length text ≡ length pre + length (length l ∷ (l ++ text)) =
    omega (arith, length-append pre (length l ∷ l), length-append l text) in
    label_here start (length pre) (length pre + length (length l ∷ (l ++ text))) l l (m ∷ rest) (label_behind pre l text some few) refl
    (stands-along as_written _ _ start _ _ _ _ (m ∷ rest) (full_stands (m ∷ rest) (pre ++ length l ∷ l) start h) (append_assoc pre (length l ∷ l) text) n last)

pub full_noted : (labels : List (List ℕ)) (pre : List ℕ) → AreSpelled labels
    → AllStood (pre ++ wire labels) (length (pre ++ wire labels)) (full_notes (length pre) (folded_labels labels))
full_noted [] pre h = absurd h
full_noted (l ∷ []) pre h = tt
full_noted (l ∷ m ∷ rest) pre h =
    let text = wire (m ∷ rest) in
    let n : length (pre ++ length l ∷ l) ≡ length pre + 1 + length (folded_label l) = omega (arith, length-append pre (length l ∷ l), folded_long l) in
    let inner = full_noted (m ∷ rest) (pre ++ length l ∷ l) h.2 in
    let moved = stood-along _ (pre ++ wire (l ∷ m ∷ rest)) _ (full_notes (length pre + 1 + length (folded_label l)) (folded_labels (m ∷ rest))) inner
    (append_assoc pre (length l ∷ l) text) (ap (λ k. full_notes k (folded_labels (m ∷ rest))) n) in
    note_first (pre ++ wire (l ∷ m ∷ rest)) (length pre) (length pre + length (wire (l ∷ m ∷ rest))) (folded_labels (l ∷ m ∷ rest)) _
    (omega (arith, length-append pre (wire (l ∷ m ∷ rest))))
    (folds_to _ (length pre) (length pre) _ (l ∷ m ∷ rest) (full_stands (l ∷ m ∷ rest) pre (length pre) h)) moved
