-- The names of an encoding are compressed: what is noted is exactly what occurred before.
use Rattle.std.proofs.Common.{◌≡◌, ℕ, zero, suc, ◌+◌, ◌<◌, ◌≤◌, Bool, true, false, ◌⊎◌, inl, inr, ⊎_elim, List, [], ◌∷◌, ◌++◌, length, Option, Some, None, Contains, refl, sym, ◌∙◌, ap, subst, arith, length-append, append_assoc}
use Rattle.std.specs.Prelude.{nat_lt, if◌then◌else◌}
use Rattle.std.specs.Int.{bytes_high_first}
use Rattle.std.specs.List.{AllByRecursion}
use Rattle.std.specs.Cmp.Lexicographic.{bytes_decides}
use Rattle.std.proofs.lemmas.List.{append-nil}
use Rattle.std.proofs.lemmas.List.Elements.{Contains-append_left, Contains-append_right, Contains-append_cases}
use Rattle.dname.specs.Labels.{folded_label, folded_labels, wire, same_name, IsAtOrUnder}
use Rattle.message_grammar.specs.Names.{IsLabelAt, as_written}
use Rattle.message_grammar.specs.Packing.{Note, find, pointer_or, packed, noted, notes_or, packed_notes}
use Rattle.message_grammar.specs.Pieces.{Flat, plain_bytes, packed_name, asked_name, full_name, Piece, flat_piece, sized_group, Text, place_of, flat_bytes, flat_notes, put_flat, put_flats, group_of, with_group, put, after, empty}
use Rattle.message_grammar.specs.Messages.{Message, IsWritable, message_pieces, encoding}
use Rattle.message_grammar.specs.Places.{IsAt}
use Rattle.message_grammar.specs.Compression.{IsWrittenFor, IsOccurrence, RestAt, in_full, by_pointer, IsCompressedAt, FlatPackedAt, names_behind, FlatsPackedAt, GroupPackedAt, PiecesPackedAt, IsCompressed}
use Rattle.message_grammar.proofs.Reading.{one_reading}
use Rattle.message_grammar.proofs.Growing.{at-grown}
use Rattle.message_grammar.proofs.Standing.{Stood, AllStood, stood-grown, found}
use Rattle.message_grammar.proofs.Walking.{Step, Walks, walks-grown, walks-along, packed_walks, full_walks, full_as_packed, walk_written, walk_noted, Among, HasNote}
use Rattle.message_grammar.proofs.Written.{IsFlat, IsPiece, at_behind, piece-along, IsKept, Continues, flat_put, flats_put, group_kept, group_put, pieces_put, grown_by}
use Rattle.message_grammar.proofs.Whole.{pieces_are}

-- ---- notes in the order of their places

abbrev Rises : ℕ → List Note → Type 0
Rises low [] = Unit {0}
Rises low (n ∷ notes) = (low ≤ n.place) × Rises n.place notes

rises_lower : (low lower : ℕ) (notes : List Note) → lower ≤ low → Rises low notes → Rises lower notes
rises_lower low lower [] le h = tt
rises_lower low lower (n ∷ notes) le (first, others) = (omega arith, others)

rises_among : (low : ℕ) (notes : List Note) (n : Note) → Rises low notes → Among n notes → low ≤ n.place
rises_among low [] n h k = absurd k
rises_among low (x ∷ notes) n (first, others) (inl e) = let q = ap (λ (y : Note). y.place) e in omega arith
rises_among low (x ∷ notes) n (first, others) (inr k) = let q = rises_among x.place notes n others k in omega arith

abbrev Below : ℕ → List Note → Type 0
Below limit notes = AllByRecursion (λ (n : Note). n.place < limit) notes

rises_append : (low mid : ℕ) (notes later : List Note) → Rises low notes → Below mid notes → low ≤ mid → Rises mid later → Rises low (notes ++ later)
rises_append low mid [] later h below le k = rises_lower mid low later le k
rises_append low mid (n ∷ notes) later (first, others) (less, rest) le k = (first, rises_append n.place mid notes later others rest (omega arith) k)

noted_rises : (suffix : List (List ℕ)) (at next : ℕ) (later : List Note) (o : Option ℕ) → at ≤ next → Rises next later → Rises at (notes_or o (noted suffix at later))
noted_rises suffix at next later None le h = by (nat_lt at 16384)
  where
    by : (b : Bool) → Rises at (if b then record { suffix = suffix; place = at } ∷ later else [])
    by true = (omega arith, rises_lower next at later le h)
    by false = tt
noted_rises suffix at next later (Some p) le h = tt

packed_rises : (notes : List Note) (at : ℕ) (name : List (List ℕ)) → Rises at (packed_notes notes at name)
packed_rises notes at [] = tt
packed_rises notes at (l ∷ []) = tt
packed_rises notes at (l ∷ m ∷ rest) =
    noted_rises (l ∷ m ∷ rest) at (at + 1 + length l) (packed_notes notes (at + 1 + length l) (m ∷ rest)) (find notes (l ∷ m ∷ rest)) (omega arith)
    (packed_rises notes (at + 1 + length l) (m ∷ rest))

same_name_self : (n : List (List ℕ)) → same_name n n ≡ true
same_name_self n = (bytes_decides (wire n) (wire n)).1 refl

-- What is found for a suffix stands no later than any note of it.
abbrev First : Option ℕ → ℕ → Type 0
First None place = ⊥
First (Some p) place = p ≤ place

found_first : (notes : List Note) (name : List (List ℕ)) (place low : ℕ) → Rises low notes → Among (record { suffix = name; place = place }) notes
    → First (find notes name) place
found_first [] name place low h k = absurd k
found_first (n ∷ notes) name place low (first, others) k = by (same_name n.suffix name) refl k (λ m. found_first notes name place n.place others m)
  where
    by : (b : Bool) → same_name n.suffix name ≡ b → (n ≡ record { suffix = name; place = place }) ⊎ Among (record { suffix = name; place = place }) notes
        → (Among (record { suffix = name; place = place }) notes → First (find notes name) place) → First (if b then Some n.place else find notes name) place
    by true same (inl e) later = let q = ap (λ (y : Note). y.place) e in omega arith
    by true same (inr m) later = rises_among n.place notes (record { suffix = name; place = place }) others m
    by false same (inl e) later =
        let q : n.suffix ≡ name = ap (λ (y : Note). y.suffix) e in
        let yes : same_name n.suffix name ≡ true = ap (λ x. same_name x name) q ∙ same_name_self name in
        absurd (cc)
    by false same (inr m) later = later m

-- ---- what is noted is what occurred

all_among : (P : Note → Type 0) (notes : List Note) (n : Note) → AllByRecursion P notes → Among n notes → P n
all_among P [] n h k = absurd k
all_among P (x ∷ notes) n (first, others) (inl e) = subst P e first
all_among P (x ∷ notes) n (first, others) (inr k) = all_among P notes n others k

all_on : (P Q : Note → Type 0) (notes : List Note) → ((n : Note) → P n → Q n) → AllByRecursion P notes → AllByRecursion Q notes
all_on P Q [] go h = tt
all_on P Q (n ∷ notes) go (first, others) = (go n first, all_on P Q notes go others)

all_append : (P : Note → Type 0) (notes later : List Note) → AllByRecursion P notes → AllByRecursion P later → AllByRecursion P (notes ++ later)
all_append P [] later h k = k
all_append P (n ∷ notes) later (first, others) k = (first, all_append P notes later others k)

among_left : (notes later : List Note) (n : Note) → Among n notes → Among n (notes ++ later)
among_left [] later n k = absurd k
among_left (x ∷ notes) later n (inl e) = inl e
among_left (x ∷ notes) later n (inr k) = inr (among_left notes later n k)

among_right : (notes later : List Note) (n : Note) → Among n later → Among n (notes ++ later)
among_right [] later n k = k
among_right (x ∷ notes) later n k = inr (among_right notes later n k)

-- A label stands there that was written for one of the names.
pub record IsOfNames (bytes : List ℕ) (names : List ℕ) (place : ℕ) : Type 0 where
  pub name : ℕ
  pub prior : Contains names name
  pub written : IsWrittenFor bytes name place

-- The notes are the labels that were written for these names, as far as a pointer reaches, in their order.
pub record AreExact (bytes : List ℕ) (names : List ℕ) (notes : List Note) : Type 0 where
  pub written : AllByRecursion (λ (n : Note). IsOfNames bytes names n.place) notes
  pub noted : (name place : ℕ) → Contains names name → IsWrittenFor bytes name place → place < 16384 → HasNote notes place
  pub rises : Rises 0 notes

occurs : (bytes names : List ℕ) (notes : List Note) (limit : ℕ) (name : List (List ℕ)) (p : ℕ) → AreExact bytes names notes → AllStood bytes limit notes
    → find notes name ≡ Some p → IsOccurrence bytes names name p
occurs bytes names notes limit name p exact stood e =
    let from = found (λ (n : Note). IsOfNames bytes names n.place) notes name p exact.written e in
    let there = found (Stood bytes limit) notes name p stood e in
    record { reach = there.reach; name = from.name; prior = from.prior; written = from.written; end = there.end; reads = there.stands }

occurrence_noted : (bytes names : List ℕ) (notes : List Note) (limit : ℕ) (suffix : List (List ℕ)) (target : ℕ) → AreExact bytes names notes
    → AllStood bytes limit notes → IsOccurrence bytes names suffix target → Among (record { suffix = suffix; place = target }) notes
occurrence_noted bytes names notes limit suffix target exact stood o =
    let h = exact.noted o.name target o.prior o.written o.reach in
    let n = h.note in
    let there = all_among (Stood bytes limit) notes n stood h.in_row in
    let s = (one_reading folded_label bytes n.place n.place there.end n.suffix there.stands target target o.end suffix o.reads (sym h.at)).0 in
    let q = h.at in
    let whole : n ≡ record { suffix = suffix; place = target } = λ i. record { suffix = s i; place = q i } in
    subst (λ (x : Note). Among x notes) whole h.in_row

occurrence_first : (bytes names : List ℕ) (notes : List Note) (limit : ℕ) (suffix : List (List ℕ)) (target : ℕ) (o : Option ℕ) → AreExact bytes names notes
    → AllStood bytes limit notes → find notes suffix ≡ o → IsOccurrence bytes names suffix target → First o target
occurrence_first bytes names notes limit suffix target o exact stood e k =
    subst (λ (x : Option ℕ). First x target) e
    (found_first notes suffix target 0 exact.rises (occurrence_noted bytes names notes limit suffix target exact stood k))

-- ---- a packed name is compressed

none_longer : (name suffix : List (List ℕ)) → IsAtOrUnder name suffix → length name < length suffix → ⊥
none_longer name suffix (front, e) longer = absurd (let n = ap length e in omega (arith, length-append front suffix))

longer_on : (bytes names : List ℕ) (l : List ℕ) (name rest : List (List ℕ))
    → ((target : ℕ) → IsOccurrence bytes names (l ∷ name) target → ⊥)
    → ((suffix : List (List ℕ)) (target : ℕ) → IsAtOrUnder name suffix → length rest < length suffix → IsOccurrence bytes names suffix target → ⊥)
    → (suffix : List (List ℕ)) (target : ℕ) → IsAtOrUnder (l ∷ name) suffix → length rest < length suffix → IsOccurrence bytes names suffix target → ⊥
longer_on bytes names l name rest none inner suffix target ([], e) longer k = none target (subst (λ (x : List (List ℕ)). IsOccurrence bytes names x target) (sym e) k)
longer_on bytes names l name rest none inner suffix target (x ∷ front, e) longer k = inner suffix target (front, (cc)) longer k

compressed_step : (bytes names : List ℕ) (notes : List Note) (limit at : ℕ) (l : List ℕ) (tail : List (List ℕ)) (text : List ℕ) (o : Option ℕ)
    → AreExact bytes names notes → AllStood bytes limit notes → find notes (l ∷ tail) ≡ o
    → (A : Type 0) → (A → IsCompressedAt bytes names (at + 1 + length l) tail (at + 1 + length l + length text))
    → Step as_written bytes at l o A → IsCompressedAt bytes names at (l ∷ tail) (at + length (pointer_or o (length l ∷ (l ++ text))))
compressed_step bytes names notes limit at l tail text None exact stood e A go (w, here, seen, long, inner) =
    let c = go inner in
    let last : at + 1 + length l + length text ≡ at + length (length l ∷ (l ++ text)) = omega (arith, length-append l text) in
    record {
      first = l ∷ c.first;
      rest = c.rest;
      whole = ap (λ x. l ∷ x) c.whole;
      behind = c.behind;
      row = (subst (λ (x : List ℕ). IsLabelAt bytes at x) (sym seen) here, c.row);
      goes_on = subst (λ (x : ℕ). RestAt bytes names c.behind c.rest x) last c.goes_on;
      longest = longer_on bytes names l tail c.rest (λ target k. occurrence_first bytes names notes limit (l ∷ tail) target None exact stood e k) c.longest;
    }
compressed_step bytes names notes limit at l tail text (Some p) exact stood e A go there = record {
  first = [];
  rest = l ∷ tail;
  whole = refl;
  behind = at;
  row = refl;
  goes_on = by_pointer p there (occurs bytes names notes limit (l ∷ tail) p exact stood e)
      (λ other k. occurrence_first bytes names notes limit (l ∷ tail) other (Some p) exact stood e k) refl;
  longest = λ suffix target under longer k. none_longer (l ∷ tail) suffix under longer;
}

compressed : (bytes names : List ℕ) (notes : List Note) (limit at : ℕ) (name : List (List ℕ)) → AreExact bytes names notes → AllStood bytes limit notes
    → Walks as_written bytes notes at name → IsCompressedAt bytes names at name (at + length (packed notes name))
compressed bytes names notes limit at [] exact stood h = absurd h
compressed bytes names notes limit at (l ∷ []) exact stood (e, z) = record {
  first = [];
  rest = l ∷ [];
  whole = refl;
  behind = at;
  row = refl;
  goes_on = in_full (ap (λ x. x ∷ []) e) z refl;
  longest = λ suffix target under longer k. none_longer (l ∷ []) suffix under longer;
}
compressed bytes names notes limit at (l ∷ m ∷ rest) exact stood h =
    compressed_step bytes names notes limit at l (m ∷ rest) (packed notes (m ∷ rest)) (find notes (l ∷ m ∷ rest)) exact stood refl _
    (compressed bytes names notes limit (at + 1 + length l) (m ∷ rest) exact stood) h

-- ---- behind a name the notes are exact

single : (at name : ℕ) → Contains (at ∷ []) name → at ≡ name
single at name (zero, lt, e) = e
single at name (suc k, lt, e) = absurd (omega arith)

has_left : (notes later : List Note) (place : ℕ) → HasNote notes place → HasNote (notes ++ later) place
has_left notes later place h = record { note = h.note; in_row = among_left notes later h.note h.in_row; at = h.at }

has_right : (notes later : List Note) (place : ℕ) → HasNote later place → HasNote (notes ++ later) place
has_right notes later place h = record { note = h.note; in_row = among_right notes later h.note h.in_row; at = h.at }

exact_on : (f : List ℕ → List ℕ) (bytes names : List ℕ) (notes under : List Note) (at : ℕ) (name : List (List ℕ)) → AreExact bytes names notes
    → Below at notes → Walks f bytes under at name → AreExact bytes (names ++ at ∷ []) (notes ++ packed_notes under at name)
exact_on f bytes names notes under at name exact below walks = record {
  written = all_append (λ (n : Note). IsOfNames bytes (names ++ at ∷ []) n.place) notes (packed_notes under at name)
      (all_on _ _ notes (λ n h. record { name = h.name; prior = Contains-append_left names (at ∷ []) h.name h.prior; written = h.written }) exact.written)
      (all_on _ _ (packed_notes under at name)
      (λ n h. record { name = at; prior = Contains-append_right names (at ∷ []) at (zero, omega arith, refl); written = h })
      (walk_written f bytes under at name walks));
  noted = λ other place c k few. ⊎_elim
      (λ d. has_left notes (packed_notes under at name) place (exact.noted other place d k few))
      (λ d. has_right notes (packed_notes under at name) place
      (walk_noted f bytes under at place name walks (subst (λ (x : ℕ). IsWrittenFor bytes x place) (sym (single at other d)) k) few))
      (Contains-append_cases names (at ∷ []) other c);
  rises = rises_append 0 at notes (packed_notes under at name) exact.rises below (omega arith) (packed_rises under at name);
}

-- ---- pieces

pub record FlatGoes (bytes names : List ℕ) (notes : List Note) (at : ℕ) (f : Flat) (end : ℕ) : Type 0 where
  pub there : FlatPackedAt bytes names at f end
  pub exact : AreExact bytes (names_behind names at f) (notes ++ flat_notes notes at f)

exact_same : (bytes names : List ℕ) (notes : List Note) → AreExact bytes names notes → AreExact bytes names (notes ++ [])
exact_same bytes names notes h = subst (λ (x : List Note). AreExact bytes names x) (sym (append-nil notes)) h

text_at : (bytes pre text rest : List ℕ) → bytes ≡ (pre ++ text) ++ rest → IsAt bytes (length pre) text (length (pre ++ text))
text_at bytes pre text rest whole =
    subst (λ (x : List ℕ). IsAt x (length pre) text (length (pre ++ text))) (sym whole)
    (at-grown (pre ++ text) rest (length pre) text (length (pre ++ text)) (at_behind pre text))

flat_goes : (bytes names : List ℕ) (notes : List Note) (pre rest : List ℕ) (f : Flat) → bytes ≡ (pre ++ flat_bytes notes f) ++ rest
    → AllStood pre (length pre) notes → IsFlat f → AreExact bytes names notes
    → FlatGoes bytes names notes (length pre) f (length (pre ++ flat_bytes notes f))
flat_goes bytes names notes pre rest (plain_bytes b) whole stood is exact = record {
  there = text_at bytes pre b rest whole;
  exact = exact_same bytes names notes exact;
}
flat_goes bytes names notes pre rest (packed_name n) whole stood is exact =
    let text = packed notes n in
    let reach = all_on _ (λ (k : Note). k.place < 16384) notes (λ k s. s.reach) stood in
    let below = all_on _ (λ (k : Note). k.place < length pre) notes (λ k s. s.before) stood in
    let walks = walks-along as_written _ bytes notes (length pre) (length pre) n (walks-grown as_written _ rest notes (length pre) n (packed_walks notes n pre reach is.labels))
    (sym whole) refl in
    let far = subst (λ (x : List ℕ). AllStood x (length pre) notes) (sym (whole ∙ append_assoc pre text rest))
    (stood-grown pre (text ++ rest) (length pre) (length pre) notes stood (omega arith)) in
    record {
      there = subst (λ (x : ℕ). IsCompressedAt bytes names (length pre) n x) (sym (length-append pre text))
          (compressed bytes names notes (length pre) (length pre) n exact far walks);
      exact = exact_on as_written bytes names notes notes (length pre) n exact below walks;
    }
flat_goes bytes names notes pre rest (asked_name n) whole stood is exact =
    let below = all_on _ (λ (k : Note). k.place < length pre) notes (λ k s. s.before) stood in
    let walks = walks-along folded_label _ bytes [] (length pre) (length pre) (folded_labels n)
    (walks-grown folded_label _ rest [] (length pre) (folded_labels n) (full_walks n pre is.spelled)) (sym whole) refl in
    record {
      there = text_at bytes pre (wire n) rest whole;
      exact = subst (λ (x : List Note). AreExact bytes (names ++ length pre ∷ []) (notes ++ x)) (sym (full_as_packed (length pre) (folded_labels n)))
          (exact_on folded_label bytes names notes [] (length pre) (folded_labels n) exact below walks);
    }
flat_goes bytes names notes pre rest (full_name n) whole stood is exact = record {
  there = text_at bytes pre (wire n) rest whole;
  exact = exact_same bytes names notes exact;
}

text_flat : (bytes names before : List ℕ) (t : Text) (f : Flat) (rest : List ℕ) → IsKept before t → IsFlat f → AreExact bytes names t.notes
    → bytes ≡ (before ++ (put_flat t f).bytes) ++ rest
    → FlatPackedAt bytes names (place_of t) f (place_of (put_flat t f)) × AreExact bytes (names_behind names (place_of t) f) (put_flat t f).notes
unfolding put_flat
text_flat bytes names before t f rest kept is exact whole =
    let pre = before ++ t.bytes in
    let text = flat_bytes t.notes f in
    let a = kept.at in
    let here : length pre ≡ place_of t = omega (arith, length-append before t.bytes) in
    let joined : pre ++ text ≡ before ++ (t.bytes ++ text) = append_assoc before t.bytes text in
    let last : length (pre ++ text) ≡ t.start + length (t.bytes ++ text) =
    omega (arith, length-append pre text, length-append before t.bytes, length-append t.bytes text) in
    let goes = flat_goes bytes names t.notes pre rest f (whole ∙ ap (λ x. x ++ rest) (sym joined)) kept.stood is exact in
    let moved = subst (λ (x : ℕ). FlatGoes bytes names t.notes (place_of t) f x) last
    (subst (λ (x : ℕ). FlatGoes bytes names t.notes x f (length (pre ++ text))) here goes) in
    (moved.there, moved.exact)

-- What is whole with a text's continuation is whole with the text.
whole_before : (bytes before : List ℕ) (t u : Text) (rest : List ℕ) (k : Continues t u) → bytes ≡ (before ++ u.bytes) ++ rest
    → bytes ≡ (before ++ t.bytes) ++ (k.more ++ rest)
whole_before bytes before t u rest k whole = whole ∙ (ap (λ x. x ++ rest) (sym (grown_by before t u k)) ∙ append_assoc (before ++ t.bytes) k.more rest)

pub record FlatsGo (bytes names : List ℕ) (at : ℕ) (fs : List Flat) (end : ℕ) (notes : List Note) : Type 0 where
  pub later : List ℕ
  pub there : FlatsPackedAt bytes names at fs later end
  pub exact : AreExact bytes later notes

text_flats : (fs : List Flat) (bytes names before : List ℕ) (t : Text) (rest : List ℕ) → IsKept before t → AllByRecursion IsFlat fs → AreExact bytes names t.notes
    → bytes ≡ (before ++ (put_flats t fs).bytes) ++ rest
    → FlatsGo bytes names (place_of t) fs (place_of (put_flats t fs)) (put_flats t fs).notes
text_flats [] bytes names before t rest kept is exact whole = record { later = names; there = (refl, refl); exact = exact }
text_flats (f ∷ fs) bytes names before t rest kept (one, others) exact whole =
    let u = put_flat t f in
    let first = flat_put before t f kept one in
    let more = flats_put fs before u first.kept others in
    let step = text_flat bytes names before t f (more.continues.more ++ rest) kept one exact (whole_before bytes before u (put_flats u fs) rest more.continues whole) in
    let tail = text_flats fs bytes (names_behind names (place_of t) f) before u rest first.kept others step.1 whole in
    record { later = tail.later; there = (place_of u, step.0, tail.there); exact = tail.exact }

pub record GroupGoes (bytes names : List ℕ) (at : ℕ) (fs : List Flat) (end : ℕ) (notes : List Note) : Type 0 where
  pub later : List ℕ
  pub there : GroupPackedAt bytes names at fs later end
  pub exact : AreExact bytes later notes

text_group : (bytes names before : List ℕ) (t : Text) (fs : List Flat) (rest : List ℕ) → IsKept before t → AllByRecursion IsFlat fs
    → AreExact bytes names t.notes → bytes ≡ (before ++ (with_group t (group_of t fs)).bytes) ++ rest
    → GroupGoes bytes names (place_of t) fs (place_of (with_group t (group_of t fs))) (group_of t fs).notes
text_group bytes names before t fs rest kept is exact whole =
    let group = group_of t fs in
    let size = bytes_high_first 2 (length group.bytes) in
    let pre = before ++ t.bytes in
    let a = kept.at in
    let inner : Text = record { start = place_of t + 2; bytes = []; notes = t.notes } in
    let began = (flats_put fs (pre ++ size) inner (group_kept before t size refl kept) is).continues.start in
    let here : length pre ≡ place_of t = omega (arith, length-append before t.bytes) in
    let behind : length (pre ++ size) ≡ place_of t + 2 = omega (arith, length-append pre size, length-append before t.bytes) in
    let joined : (pre ++ size) ++ group.bytes ≡ before ++ (t.bytes ++ (size ++ group.bytes)) =
    append_assoc pre size group.bytes ∙ append_assoc before t.bytes (size ++ group.bytes) in
    let last : t.start + length (t.bytes ++ (size ++ group.bytes)) ≡ place_of t + 2 + length group.bytes =
    omega (arith, length-append t.bytes (size ++ group.bytes), length-append size group.bytes) in
    let parted : bytes ≡ ((pre ++ size) ++ group.bytes) ++ rest = whole ∙ ap (λ x. x ++ rest) (sym joined) in
    let go = text_flats fs bytes names (pre ++ size) inner rest (group_kept before t size refl kept) is exact parted in
    let ends : place_of group ≡ place_of (with_group t group) = omega arith in
    let starts : place_of inner ≡ place_of t + 2 = omega arith in
    record {
      later = go.later;
      there = record {
        size = length group.bytes;
        length_first = piece-along _ _ _ _ (flat_piece (plain_bytes size)) _ _
            (text_at bytes pre size (group.bytes ++ rest) (parted ∙ append_assoc (pre ++ size) group.bytes rest)) refl here behind;
        packed = subst (λ (x : ℕ). FlatsPackedAt bytes names (place_of t + 2) fs go.later x) ends
            (subst (λ (x : ℕ). FlatsPackedAt bytes names x fs go.later (place_of group)) starts go.there);
        fills = last;
      };
      exact = go.exact;
    }

text_pieces : (ps : List Piece) (bytes names before : List ℕ) (t : Text) (rest : List ℕ) → IsKept before t → AllByRecursion IsPiece ps
    → AreExact bytes names t.notes → bytes ≡ (before ++ (after t ps).bytes) ++ rest → PiecesPackedAt bytes names (place_of t) ps (place_of (after t ps))
unfolding put
text_pieces [] bytes names before t rest kept is exact whole = refl
text_pieces (flat_piece f ∷ ps) bytes names before t rest kept (one, others) exact whole =
    let u = put_flat t f in
    let first = flat_put before t f kept one in
    let more = pieces_put ps before u first.kept others in
    let step = text_flat bytes names before t f (more.continues.more ++ rest) kept one exact (whole_before bytes before u (after u ps) rest more.continues whole) in
    (place_of u, step.0, text_pieces ps bytes (names_behind names (place_of t) f) before u rest first.kept others step.1 whole)
text_pieces (sized_group fs ∷ ps) bytes names before t rest kept (one, others) exact whole =
    let u = with_group t (group_of t fs) in
    let first = group_put before t fs kept one in
    let more = pieces_put ps before u first.kept others in
    let step = text_group bytes names before t fs (more.continues.more ++ rest) kept one exact (whole_before bytes before u (after u ps) rest more.continues whole) in
    (place_of u, step.later, step.there, text_pieces ps bytes step.later before u rest first.kept others step.exact whole)

-- The names of an encoding are compressed.
pub encoding_compressed : (m : Message) → IsWritable m → IsCompressed (encoding m) m
unfolding encoding
encoding_compressed m is =
    let ps = message_pieces m in
    let kept : IsKept [] empty = record { at = refl; stood = tt } in
    let exact : AreExact (encoding m) [] [] = record { written = tt; noted = λ name place c k few. absurd (none_in name c); rises = tt } in
    let began = (pieces_put ps [] empty kept (pieces_are m is)).continues.start in
    let all = text_pieces ps (encoding m) [] [] empty [] kept (pieces_are m is) exact (sym (append-nil (encoding m))) in
    subst (λ (x : ℕ). PiecesPackedAt (encoding m) [] 0 ps x) (omega arith) all
  where
    none_in : (name : ℕ) → Contains [] name → ⊥
    none_in name (k, lt, e) = absurd (omega arith)
