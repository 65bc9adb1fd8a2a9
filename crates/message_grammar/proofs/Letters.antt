-- What stands behind a place depends on the notes before it alone: so the letters of a question's name
-- change no length and nothing behind it.
use Rattle.std.proofs.Common.{◌≡◌, ℕ, ◌+◌, Bool, true, false, cond, List, [], ◌∷◌, ◌++◌, length, map, refl, sym, ◌∙◌, ap, subst, arith, length-append, append_assoc}
use Rattle.std.specs.Prelude.{nat_le, ◌&&◌, flat_map}
use Rattle.std.proofs.lemmas.List.{append-nil, length-map}
use Rattle.std.proofs.lemmas.Bool.Decides.{nat_tests}
use Rattle.dname.specs.Labels.{folded, folded_label, folded_labels, wire}
use Rattle.message_grammar.specs.Packing.{full_notes}
use Rattle.message_grammar.specs.Pieces.{Flat, asked_name, Piece, flat_piece, sized_group, short_number, Text, place_of, flat_bytes, flat_notes, put_flat, put_flats, group_of, with_group, put, after, empty}
use Rattle.message_grammar.specs.Messages.{Question, Message, header_pieces, question_pieces, record_pieces, counts_of, encoding, folded_question, folded_message}
use Rattle.message_grammar.proofs.Whole.{wire_folded_long}

-- Two texts with the same place and notes, whatever their bytes.
pub record Alike (t u : Text) : Type 0 where
  pub place : place_of t ≡ place_of u
  pub notes : t.notes ≡ u.notes

-- The same bytes were written behind each of two texts.
pub record BothGo (t u v w : Text) : Type 0 where
  pub more : List ℕ
  pub first : v.bytes ≡ t.bytes ++ more
  pub second : w.bytes ≡ u.bytes ++ more
  pub first_start : v.start ≡ t.start
  pub second_start : w.start ≡ u.start
  pub alike : Alike v w

flat_both : (t u : Text) (f : Flat) → Alike t u → BothGo t u (put_flat t f) (put_flat u f)
unfolding put_flat
flat_both t u f h =
    let p = h.place in
    let n = h.notes in
    let same : flat_bytes t.notes f ≡ flat_bytes u.notes f = ap (λ x. flat_bytes x f) n in
    record {
      more = flat_bytes t.notes f;
      first = refl;
      second = ap (λ x. u.bytes ++ x) (sym same);
      first_start = refl;
      second_start = refl;
      alike = record {
        place = omega (arith, length-append t.bytes (flat_bytes t.notes f), length-append u.bytes (flat_bytes u.notes f), ap length same);
        notes = λ i. n i ++ flat_notes (n i) (p i) f;
      };
    }

both_on : (t u v w x y : Text) → BothGo t u v w → BothGo v w x y → BothGo t u x y
both_on t u v w x y h k = record {
  more = h.more ++ k.more;
  first = k.first ∙ (ap (λ z. z ++ k.more) h.first ∙ append_assoc t.bytes h.more k.more);
  second = k.second ∙ (ap (λ z. z ++ k.more) h.second ∙ append_assoc u.bytes h.more k.more);
  first_start = k.first_start ∙ h.first_start;
  second_start = k.second_start ∙ h.second_start;
  alike = k.alike;
}

both_stay : (t u : Text) → Alike t u → BothGo t u t u
both_stay t u h = record {
  more = [];
  first = sym (append-nil t.bytes);
  second = sym (append-nil u.bytes);
  first_start = refl;
  second_start = refl;
  alike = h;
}

pub flats_both : (fs : List Flat) (t u : Text) → Alike t u → BothGo t u (put_flats t fs) (put_flats u fs)
flats_both [] t u h = both_stay t u h
flats_both (f ∷ fs) t u h =
    let one = flat_both t u f h in
    both_on t u (put_flat t f) (put_flat u f) _ _ one (flats_both fs (put_flat t f) (put_flat u f) one.alike)

piece_both : (t u : Text) (p : Piece) → Alike t u → BothGo t u (put t p) (put u p)
unfolding put
piece_both t u (flat_piece f) h = flat_both t u f h
piece_both t u (sized_group fs) h =
    let p = h.place in
    let n = h.notes in
    let group : group_of t fs ≡ group_of u fs = λ i. put_flats (record { start = p i + 2; bytes = []; notes = n i }) fs in
    let added = (with_group empty (group_of t fs)).bytes in
    let same : (with_group empty (group_of t fs)).bytes ≡ (with_group empty (group_of u fs)).bytes = ap (λ g. (with_group empty g).bytes) group in
    record {
      more = added;
      first = refl;
      second = ap (λ x. u.bytes ++ x) (sym same);
      first_start = refl;
      second_start = refl;
      alike = record {
        place = omega (arith, length-append t.bytes added, length-append u.bytes (with_group empty (group_of u fs)).bytes, ap length same);
        notes = ap (λ g. g.notes) group;
      };
    }

pub pieces_both : (ps : List Piece) (t u : Text) → Alike t u → BothGo t u (after t ps) (after u ps)
pieces_both [] t u h = both_stay t u h
pieces_both (p ∷ ps) t u h =
    let one = piece_both t u p h in
    both_on t u (put t p) (put u p) _ _ one (pieces_both ps (put t p) (put u p) one.alike)

pub after-append : (ps qs : List Piece) (t : Text) → after t (ps ++ qs) ≡ after (after t ps) qs
after-append [] qs t = refl
after-append (p ∷ ps) qs t = after-append ps qs (put t p)

-- ---- letters

folded-twice : (b : ℕ) → folded (folded b) ≡ folded b
folded-twice b = by (nat_le 65 b && nat_le b 90) refl
  where
    by : (c : Bool) → (nat_le 65 b && nat_le b 90) ≡ c → folded (cond c (b + 32) b) ≡ cond c (b + 32) b
    by true h = grind (arith, nat_tests)
    by false h = ap (λ x. cond x (b + 32) b) h

pub folded_label-twice : (l : List ℕ) → folded_label (folded_label l) ≡ folded_label l
folded_label-twice [] = refl
folded_label-twice (b ∷ l) = let one = folded-twice b in let rest = folded_label-twice l in cc

pub folded_labels-twice : (ls : List (List ℕ)) → folded_labels (folded_labels ls) ≡ folded_labels ls
folded_labels-twice [] = refl
folded_labels-twice (l ∷ ls) = let one = folded_label-twice l in let rest = folded_labels-twice ls in cc

asked_alike : (t u : Text) (name : List (List ℕ)) → Alike t u → Alike (put t (flat_piece (asked_name name))) (put u (flat_piece (asked_name (folded_labels name))))
unfolding put put_flat
asked_alike t u name h =
    let p = h.place in
    let n = h.notes in
    let same = folded_labels-twice name in
    record {
      place = omega (arith, length-append t.bytes (wire name), length-append u.bytes (wire (folded_labels name)), wire_folded_long name);
      notes = λ i. n i ++ full_notes (p i) (sym same i);
    }

question_alike : (t u : Text) (q : Question) → Alike t u → Alike (after t (question_pieces q)) (after u (question_pieces (folded_question q)))
question_alike t u q h =
    (pieces_both (flat_piece (short_number q.qtype) ∷ flat_piece (short_number q.qclass) ∷ []) _ _ (asked_alike t u q.name h)).alike

questions_alike : (qs : List Question) (t u : Text) → Alike t u
    → Alike (after t (flat_map question_pieces qs)) (after u (flat_map question_pieces (map folded_question qs)))
questions_alike [] t u h = h
questions_alike (q ∷ qs) t u h =
    let one = questions_alike qs (after t (question_pieces q)) (after u (question_pieces (folded_question q))) (question_alike t u q h) in
    one

-- A message's pieces behind its questions.
abbrev pub records_pieces : Message → List Piece
records_pieces m = flat_map record_pieces m.answer ++ flat_map record_pieces m.authority ++ flat_map record_pieces m.additional

pub parts_of : (head asked a b c : List Piece) → head ++ asked ++ a ++ b ++ c ≡ head ++ (asked ++ (a ++ b ++ c))
parts_of head asked a b c = simp append_assoc

whole_length : (t : Text) → t.start ≡ 0 → place_of t ≡ length t.bytes
whole_length t h = omega arith

after_start : (ps : List Piece) (t : Text) → (after t ps).start ≡ t.start
after_start ps t = (pieces_both ps t t (record { place = refl; notes = refl })).first_start

-- The text of a message through its header, through its questions, and whole.
abbrev pub headed : Message → Text
headed m = after empty (header_pieces m.header (counts_of m))

abbrev pub questioned : Message → Text
questioned m = after (headed m) (flat_map question_pieces m.questions)

pub encoding_parts : (m : Message) → encoding m ≡ (after (questioned m) (records_pieces m)).bytes
unfolding encoding
encoding_parts m =
    let head = header_pieces m.header (counts_of m) in
    let asked = flat_map question_pieces m.questions in
    let rest = records_pieces m in
    let a = parts_of head asked (flat_map record_pieces m.answer) (flat_map record_pieces m.authority) (flat_map record_pieces m.additional) in
    ap (λ ps. (after empty ps).bytes) a ∙ ap (λ t. t.bytes) (after-append head (asked ++ rest) empty ∙ after-append asked rest (after empty head))

headed_same : (m : Message) → headed (folded_message m) ≡ headed m
headed_same m =
    ap (λ n. after empty (header_pieces m.header (record { questions = n; answer = length m.answer; authority = length m.authority; additional = length m.additional })))
    (length-map m.questions folded_question)

-- The letters of its questions change no length of a message.
pub letters_long : (m : Message) → length (encoding m) ≡ length (encoding (folded_message m))
letters_long m =
    let t = headed m in
    let u = headed (folded_message m) in
    let head = headed_same m in
    let begun : Alike t u = record { place = ap place_of (sym head); notes = ap (λ x. x.notes) (sym head) } in
    let some = questions_alike m.questions t u begun in
    let all = pieces_both (records_pieces m) (questioned m) (questioned (folded_message m)) some in
    let p = all.alike.place in
    let a = all.first_start ∙ (after_start (flat_map question_pieces m.questions) t ∙ after_start (header_pieces m.header (counts_of m)) empty) in
    let b = all.second_start ∙ (after_start (flat_map question_pieces (map folded_question m.questions)) u ∙ after_start (header_pieces m.header (counts_of (folded_message m))) empty) in
    let first = ap length (encoding_parts m) in
    let second = ap length (encoding_parts (folded_message m)) in
    omega arith

header_long : (m : Message) → length (headed m).bytes ≡ 12
unfolding put put_flat
header_long m = refl

put_asked : (t : Text) (name : List (List ℕ)) → (put t (flat_piece (asked_name name))).bytes ≡ t.bytes ++ wire name
unfolding put put_flat
put_asked t name = refl

apart_one : (m : Message) (q : Question) → (head tail : List ℕ) × (length head ≡ 12)
    × (encoding (record m { questions = q ∷ [] }) ≡ head ++ (wire q.name ++ tail))
    × (encoding (folded_message (record m { questions = q ∷ [] })) ≡ head ++ (wire (folded_labels q.name) ++ tail))
apart_one m q =
    let one : Message = record m { questions = q ∷ [] } in
    let h = headed one in
    let t = put h (flat_piece (asked_name q.name)) in
    let u = put h (flat_piece (asked_name (folded_labels q.name))) in
    let all = pieces_both (flat_piece (short_number q.qtype) ∷ flat_piece (short_number q.qclass) ∷ records_pieces m) t u
    (asked_alike h h q.name (record { place = refl; notes = refl })) in
    let tail = all.more in (
      h.bytes,
      tail,
      header_long one,
      encoding_parts one ∙ (all.first ∙ (ap (λ x. x ++ tail) (put_asked h q.name) ∙ append_assoc h.bytes (wire q.name) tail)),
      encoding_parts (folded_message one) ∙ (all.second ∙ (ap (λ x. x ++ tail) (put_asked h (folded_labels q.name)) ∙ append_assoc h.bytes (wire (folded_labels q.name)) tail)),
    )

-- What the encoding of a message of one question is: its header, the name of the question in its letters,
-- and what stands behind, which is the same for every spelling of that name.
pub letters_apart : (m : Message) (q : Question) → m.questions ≡ q ∷ [] → (head tail : List ℕ) × (length head ≡ 12)
    × (encoding m ≡ head ++ (wire q.name ++ tail)) × (encoding (folded_message m) ≡ head ++ (wire (folded_labels q.name) ++ tail))
letters_apart m q only =
    let P : Message → Type 0 = λ x. (head tail : List ℕ) × (length head ≡ 12)
    × (encoding x ≡ head ++ (wire q.name ++ tail)) × (encoding (folded_message x) ≡ head ++ (wire (folded_labels q.name) ++ tail)) in
    let whole : record m { questions = q ∷ [] } ≡ m = λ i. record m { questions = sym only i } in
    subst P whole (apart_one m q)
