-- What a writer does with a text.
use Rattle.std.proofs.Common.{◌/◌, ◌%◌, set, ◌≡◌, ℕ, suc, ◌+◌, ◌-◌, ◌<◌, ◌≤◌, List, [], ◌∷◌, ◌++◌, length, take, get_or, Option, Some, None, Result, Ok, Err, refl, sym, ◌∙◌, ap, subst, arith, append_assoc, length-append}
use Rattle.std.proofs.lemmas.List.{append-nil, take_all, take_more}
use Rattle.std.proofs.Math.Seq.{take-append-add, set-append_seam}
use Rattle.std.specs.Int.{bytes_high_first}
use Rattle.std.specs.Option.{ok_or}
use Rattle.std.specs.Prelude.{OnOk, IfOk, IfErr, IfSome, MatchOption, flat_map}
use Rattle.std.proofs.lemmas.Grind.{flat_map-append}
use Rattle.message_grammar.proofs.Letters.{after-append, flats_both, headed, questioned, encoding_parts}
use Rattle.rdata.specs.Records.{Record}
use Rattle.wire.specs.Drafts.{asked_alone, drafted}
use Rattle.message_grammar.specs.Pieces.{flat_piece, short_number, long_number}
use Rattle.message_grammar.specs.Messages.{Header, Question, high_flags, low_flags, Message, header_pieces, question_pieces, record_pieces, encoding}
use Rattle.wire.specs.declared.error.WireError.{WireError}
use Rattle.wire.specs.declared.error.WireError.TheVariants.{OverLimit}
use Rattle.wire.specs.Drafts.{RefusesText}
use Rattle.dname.specs.Labels.{wire, folded_label, folded_labels, AreLabels, AreFolded, IsName}
use Rattle.message_grammar.specs.Packing.{Note, find, pointer, pointer_or, packed, noted, notes_or, packed_notes, full_notes}
use Rattle.message_grammar.specs.Pieces.{Flat, plain_bytes, packed_name, asked_name, full_name, Text, place_of, Piece, put_flat, put_flats, group_of, put, after, empty, sized_group}
use Rattle.suffixes.specs.declared.earlier.Found.{Found}
use Rattle.suffixes.specs.Longest.{one_more, here_or, longest, first_notes}

-- Plain bytes put behind a text.
pub plain_put : (t : Text) (b : List ℕ) → put_flat t (plain_bytes b) ≡ record { start = t.start; bytes = t.bytes ++ b; notes = t.notes }
unfolding put_flat
plain_put t b = λ i. record { start = t.start; bytes = t.bytes ++ b; notes = append-nil t.notes i }

-- A name in full is put as its bytes.
pub full_put : (t : Text) (name : List (List ℕ)) → put_flat t (plain_bytes (wire name)) ≡ put_flat t (full_name name)
unfolding put_flat
full_put t name = refl

-- ---- a packed name by the longest suffix that was found

abbrev pub packed_by : Option Found → List ℕ → List ℕ
packed_by None text = text
packed_by (Some f) text = take f.bytes text ++ pointer f.place

abbrev pub written_by : Option Found → ℕ → ℕ
written_by None labels = labels
written_by (Some f) labels = f.labels

abbrev above : List (List ℕ) → ℕ
above name = length name - 1

take_on : (l text : List ℕ) (n : ℕ) → take (n + 1 + length l) (length l ∷ (l ++ text)) ≡ length l ∷ (l ++ take n text)
take_on l text n =
    let e : n + 1 + length l ≡ suc (length l + n) = omega arith in
    ap (λ k. take k (length l ∷ (l ++ text))) e ∙ ap (λ x. length l ∷ x) (take-append-add l text n)

pub packed_is : (notes : List Note) (name : List (List ℕ)) → AreLabels name → packed notes name ≡ packed_by (longest notes name) (wire name)
packed_is notes [] h = absurd h
packed_is notes (l ∷ []) h = λ i. wire (sym h i ∷ [])
packed_is notes (l ∷ m ∷ rest) h = by (find notes (l ∷ m ∷ rest)) (longest notes (m ∷ rest)) (packed_is notes (m ∷ rest) h.1)
  where
    by : (o : Option ℕ) (f : Option Found) → packed notes (m ∷ rest) ≡ packed_by f (wire (m ∷ rest))
        → pointer_or o (length l ∷ (l ++ packed notes (m ∷ rest))) ≡ packed_by (here_or o (one_more (length l) f)) (wire (l ∷ m ∷ rest))
    by (Some p) f e = refl
    by None None e = ap (λ x. length l ∷ (l ++ x)) e
    by None (Some f) e =
        ap (λ x. length l ∷ (l ++ x)) e
        ∙ (ap (λ x. length l ∷ x) (sym (append_assoc l (take f.bytes (wire (m ∷ rest))) (pointer f.place)))
        ∙ ap (λ x. x ++ pointer f.place) (sym (take_on l (wire (m ∷ rest)) f.bytes)))

first_suc : (k at : ℕ) (l m : List ℕ) (rest : List (List ℕ)) (n : ℕ) → n ≡ suc k
    → first_notes n at (l ∷ m ∷ rest) ≡ noted (l ∷ m ∷ rest) at (first_notes k (at + 1 + length l) (m ∷ rest))
first_suc k at l m rest n e = ap (λ x. first_notes x at (l ∷ m ∷ rest)) e

pub notes_are : (notes : List Note) (name : List (List ℕ)) (at : ℕ) → AreLabels name → packed_notes notes at name ≡ first_notes (written_by (longest notes name) (length name - 1)) at name
notes_are notes [] at h = absurd h
notes_are notes (l ∷ []) at h = refl
notes_are notes (l ∷ m ∷ rest) at h = by (find notes (l ∷ m ∷ rest)) (longest notes (m ∷ rest)) (notes_are notes (m ∷ rest) (at + 1 + length l) h.1)
  where
    by : (o : Option ℕ) (f : Option Found) → packed_notes notes (at + 1 + length l) (m ∷ rest) ≡ first_notes (written_by f (length (m ∷ rest) - 1)) (at + 1 + length l) (m ∷ rest)
        → notes_or o (noted (l ∷ m ∷ rest) at (packed_notes notes (at + 1 + length l) (m ∷ rest)))
        ≡ first_notes (written_by (here_or o (one_more (length l) f)) (length (l ∷ m ∷ rest) - 1)) at (l ∷ m ∷ rest)
    by (Some p) f e = refl
    by None None e =
        let n : length (l ∷ m ∷ rest) - 1 ≡ suc (length (m ∷ rest) - 1) = omega arith in
        ap (noted (l ∷ m ∷ rest) at) e ∙ sym (first_suc (length (m ∷ rest) - 1) at l m rest (length (l ∷ m ∷ rest) - 1) n)
    by None (Some f) e =
        let n : f.labels + 1 ≡ suc f.labels = omega arith in
        ap (noted (l ∷ m ∷ rest) at) e ∙ sym (first_suc f.labels at l m rest (f.labels + 1) n)

pub full_are : (name : List (List ℕ)) (at : ℕ) → AreLabels name → full_notes at name ≡ first_notes (length name - 1) at name
full_are [] at h = absurd h
full_are (l ∷ []) at h = refl
full_are (l ∷ m ∷ rest) at h =
    let n : length (l ∷ m ∷ rest) - 1 ≡ suc (length (m ∷ rest) - 1) = omega arith in
    ap (noted (l ∷ m ∷ rest) at) (full_are (m ∷ rest) (at + 1 + length l) h.1) ∙ sym (first_suc (length (m ∷ rest) - 1) at l m rest (length (l ∷ m ∷ rest) - 1) n)

-- ---- what the calls of a writer leave

pub name_put : (t : Text) (name : List (List ℕ)) (bytes : List ℕ) (notes : List Note) → IsName name → bytes ≡ t.bytes ++ packed_by (longest t.notes name) (wire name)
    → notes ≡ t.notes ++ first_notes (written_by (longest t.notes name) (length name - 1)) (place_of t) name
    → record { start = t.start; bytes = bytes; notes = notes } ≡ put_flat t (packed_name name)
unfolding put_flat
name_put t name bytes notes h b n =
    let text = b ∙ ap (λ x. t.bytes ++ x) (sym (packed_is t.notes name h.labels)) in
    let noted = n ∙ ap (λ x. t.notes ++ x) (sym (notes_are t.notes name (place_of t) h.labels)) in
    λ i. record { start = t.start; bytes = text i; notes = noted i }

pub asked_put : (t : Text) (labels name : List (List ℕ)) (bytes : List ℕ) (notes : List Note) → AreLabels name → name ≡ folded_labels labels → bytes ≡ t.bytes ++ wire labels
    → notes ≡ t.notes ++ first_notes (length name - 1) (place_of t) name
    → record { start = t.start; bytes = bytes; notes = notes } ≡ put_flat t (asked_name labels)
unfolding put_flat
asked_put t labels name bytes notes h e b n =
    let noted = n ∙ (ap (λ x. t.notes ++ x) (sym (full_are name (place_of t) h)) ∙ ap (λ x. t.notes ++ full_notes (place_of t) x) e) in
    λ i. record { start = t.start; bytes = b i; notes = noted i }

pub on_ok : {X E P Q : Type 0} (r : Result X E) → OnOk r P → (P → Q) → OnOk r Q
on_ok (Ok x) h f = f h
on_ok (Err e) h f = h

-- Plain bytes behind plain bytes.
pub plain_both : (t : Text) (a b : List ℕ) → put_flat (put_flat t (plain_bytes a)) (plain_bytes b) ≡ put_flat t (plain_bytes (a ++ b))
plain_both t a b =
    plain_put (put_flat t (plain_bytes a)) b
    ∙ (ap (λ u. record { start = u.start; bytes = u.bytes ++ b; notes = u.notes }) (plain_put t a)
    ∙ ((λ i. record { start = t.start; bytes = append_assoc t.bytes a b i; notes = t.notes }) ∙ sym (plain_put t (a ++ b))))

-- Plain bytes behind a text that is plain bytes behind another.
plain_more : (t u : Text) (a b : List ℕ) → u ≡ put_flat t (plain_bytes a) → put_flat u (plain_bytes b) ≡ put_flat t (plain_bytes (a ++ b))
plain_more t u a b h = ap (λ v. put_flat v (plain_bytes b)) h ∙ plain_both t a b

-- Numbers in one row of bytes, each taken apart.
abbrev two_of : List ℕ → List ℕ
two_of xs = get_or xs 0 0 ∷ get_or xs 1 0 ∷ []

abbrev four_of : List ℕ → List ℕ
four_of xs = get_or xs 0 0 ∷ get_or xs 1 0 ∷ get_or xs 2 0 ∷ get_or xs 3 0 ∷ []

pub two_put : (t : Text) (a b : List ℕ) (k c : ℕ) → a ≡ bytes_high_first 2 k → b ≡ bytes_high_first 2 c
    → put_flat t (plain_bytes (two_of a ++ two_of b)) ≡ put_flat (put_flat t (short_number k)) (short_number c)
two_put t a b k c h g = sym (plain_both t (two_of a) (two_of b)) ∙ (λ i. put_flat (put_flat t (plain_bytes (two_of (h i)))) (plain_bytes (two_of (g i))))

pub three_put : (t : Text) (a b d : List ℕ) (k c n : ℕ) → a ≡ bytes_high_first 2 k → b ≡ bytes_high_first 2 c → d ≡ bytes_high_first 4 n
    → put_flat t (plain_bytes ((two_of a ++ two_of b) ++ four_of d)) ≡ put_flat (put_flat (put_flat t (short_number k)) (short_number c)) (long_number n)
three_put t a b d k c n h g e =
    sym (plain_more t (put_flat (put_flat t (plain_bytes (two_of a))) (plain_bytes (two_of b))) (two_of a ++ two_of b) (four_of d) (plain_both t (two_of a) (two_of b)))
    ∙ (λ i. put_flat (put_flat (put_flat t (plain_bytes (two_of (h i)))) (plain_bytes (two_of (g i)))) (plain_bytes (four_of (e i))))

pub five_put : (t : Text) (a b c d e : List ℕ) (v w x y z : ℕ) → a ≡ bytes_high_first 4 v → b ≡ bytes_high_first 4 w → c ≡ bytes_high_first 4 x → d ≡ bytes_high_first 4 y
    → e ≡ bytes_high_first 4 z
    → put_flat t (plain_bytes ((((four_of a ++ four_of b) ++ four_of c) ++ four_of d) ++ four_of e))
    ≡ put_flat (put_flat (put_flat (put_flat (put_flat t (long_number v)) (long_number w)) (long_number x)) (long_number y)) (long_number z)
five_put t a b c d e v w x y z ha hb hc hd he =
    let two = put_flat (put_flat t (plain_bytes (four_of a))) (plain_bytes (four_of b)) in
    let three = put_flat two (plain_bytes (four_of c)) in
    let four = put_flat three (plain_bytes (four_of d)) in
    let third = plain_more t two (four_of a ++ four_of b) (four_of c) (plain_both t (four_of a) (four_of b)) in
    let fourth = plain_more t three ((four_of a ++ four_of b) ++ four_of c) (four_of d) third in
    sym (plain_more t four (((four_of a ++ four_of b) ++ four_of c) ++ four_of d) (four_of e) fourth)
    ∙ (λ i. put_flat (put_flat (put_flat (put_flat (put_flat t (plain_bytes (four_of (ha i)))) (plain_bytes (four_of (hb i)))) (plain_bytes (four_of (hc i)))) (plain_bytes (four_of (hd i))))
    (plain_bytes (four_of (he i))))

pub header_put : (t : Text) (h : Header) (questions answer authority additional high low : ℕ) (i q a n x : List ℕ) → i ≡ bytes_high_first 2 h.id → high ≡ high_flags h → low ≡ low_flags h
    → q ≡ bytes_high_first 2 questions → a ≡ bytes_high_first 2 answer → n ≡ bytes_high_first 2 authority → x ≡ bytes_high_first 2 additional
    → put_flat t (plain_bytes (((((two_of i ++ high ∷ low ∷ []) ++ two_of q) ++ two_of a) ++ two_of n) ++ two_of x))
    ≡ after t (header_pieces h (record { questions = questions; answer = answer; authority = authority; additional = additional }))
unfolding put
header_put t h questions answer authority additional high low i q a n x e1 e2 e3 e4 e5 e6 e7 =
    let f = high ∷ low ∷ [] in
    let one = put_flat t (plain_bytes (two_of i)) in
    let two = put_flat one (plain_bytes f) in
    let three = put_flat two (plain_bytes (two_of q)) in
    let four = put_flat three (plain_bytes (two_of a)) in
    let five = put_flat four (plain_bytes (two_of n)) in
    let second = plain_both t (two_of i) f in
    let third = plain_more t two (two_of i ++ f) (two_of q) second in
    let fourth = plain_more t three ((two_of i ++ f) ++ two_of q) (two_of a) third in
    let fifth = plain_more t four (((two_of i ++ f) ++ two_of q) ++ two_of a) (two_of n) fourth in
    let sixth = plain_more t five ((((two_of i ++ f) ++ two_of q) ++ two_of a) ++ two_of n) (two_of x) fifth in
    sym sixth
    ∙ (λ j. put_flat (put_flat (put_flat (put_flat (put_flat (put_flat t (plain_bytes (two_of (e1 j)))) (plain_bytes (e2 j ∷ e3 j ∷ []))) (plain_bytes (two_of (e4 j))))
    (plain_bytes (two_of (e5 j)))) (plain_bytes (two_of (e6 j)))) (plain_bytes (two_of (e7 j))))

-- Pieces of one thing after another.
pub row_on : {X : Type 0} (pieces : X → List Piece) (before now next : Text) (xs : List X) (i : ℕ) (x : X) → now ≡ after before (flat_map pieces (take i xs)) → i < length xs
    → x ≡ get_or xs i x → next ≡ after now (pieces x) → next ≡ after before (flat_map pieces (take (i + 1) xs))
row_on pieces before now next xs i x h less e k =
    let more : take (i + 1) xs ≡ take i xs ++ x ∷ [] = take_more xs i x less ∙ ap (λ y. take i xs ++ y ∷ []) (sym e) in
    let last : flat_map pieces (x ∷ []) ≡ pieces x = append-nil (pieces x) in
    k ∙ (ap (λ t. after t (pieces x)) h
    ∙ (sym (after-append (flat_map pieces (take i xs)) (pieces x) before)
    ∙ ap (after before) (ap (λ y. flat_map pieces (take i xs) ++ y) (sym last) ∙ (sym (flat_map-append pieces (take i xs) (x ∷ [])) ∙ ap (flat_map pieces) (sym more)))))

pub row_done : {X : Type 0} (pieces : X → List Piece) (before now : Text) (xs : List X) (i : ℕ) → now ≡ after before (flat_map pieces (take i xs)) → length xs ≤ i
    → now ≡ after before (flat_map pieces xs)
row_done pieces before now xs i h past = h ∙ ap (λ l. after before (flat_map pieces l)) (take_all i xs past)

-- ---- a name put by what was found among the notes

pub name_whole : (t : Text) (name : List (List ℕ)) (w bytes : List ℕ) (notes : List Note) (labels at : ℕ) (o : Option Found) → IsName name → t.start ≡ 0 → at ≡ length t.bytes
    → o ≡ longest t.notes name → o ≡ None → w ≡ wire name → bytes ≡ t.bytes ++ w → labels + 1 ≡ length name → notes ≡ t.notes ++ first_notes labels at name
    → record { start = t.start; bytes = bytes; notes = notes } ≡ put_flat t (packed_name name)
name_whole t name w bytes notes labels at o h zero_start here is none form put count noted =
    let found : longest t.notes name ≡ None = sym is ∙ none in
    let place : at ≡ place_of t = omega arith in
    let many : labels ≡ length name - 1 = omega arith in
    name_put t name bytes notes h (put ∙ (ap (λ x. t.bytes ++ x) form ∙ ap (λ f. t.bytes ++ packed_by f (wire name)) (sym found)))
    (noted ∙ ((λ i. t.notes ++ first_notes (many i) (place i) name) ∙ ap (λ f. t.notes ++ first_notes (written_by f (length name - 1)) (place_of t) name) (sym found)))

pub name_cut : (t : Text) (name : List (List ℕ)) (w before mid bytes : List ℕ) (notes : List Note) (at : ℕ) (o : Option Found) (f : Found) → IsName name → t.start ≡ 0 → at ≡ length t.bytes
    → o ≡ longest t.notes name → o ≡ Some f → w ≡ wire name → before ≡ take f.bytes w → mid ≡ t.bytes ++ before → bytes ≡ mid ++ pointer f.place
    → notes ≡ t.notes ++ first_notes f.labels at name
    → record { start = t.start; bytes = bytes; notes = notes } ≡ put_flat t (packed_name name)
name_cut t name w before mid bytes notes at o f h zero_start here is some form cut put pointed noted =
    let found : longest t.notes name ≡ Some f = sym is ∙ some in
    let place : at ≡ place_of t = omega arith in
    let front : before ≡ take f.bytes (wire name) = cut ∙ ap (take f.bytes) form in
    name_put t name bytes notes h
    (pointed ∙ (ap (λ x. x ++ pointer f.place) put ∙ (append_assoc t.bytes before (pointer f.place) ∙ (ap (λ x. t.bytes ++ (x ++ pointer f.place)) front
    ∙ ap (λ g. t.bytes ++ packed_by g (wire name)) (sym found)))))
    (noted ∙ (ap (λ n. t.notes ++ first_notes f.labels n name) place ∙ ap (λ g. t.notes ++ first_notes (written_by g (length name - 1)) (place_of t) name) (sym found)))

pub name_asked : (t : Text) (labels name : List (List ℕ)) (w bytes : List ℕ) (notes : List Note) (count at : ℕ) → IsName name → name ≡ folded_labels labels → t.start ≡ 0 → at ≡ length t.bytes
    → w ≡ wire labels → bytes ≡ t.bytes ++ w → count + 1 ≡ length name → notes ≡ t.notes ++ first_notes count at name
    → record { start = t.start; bytes = bytes; notes = notes } ≡ put_flat t (asked_name labels)
name_asked t labels name w bytes notes count at h folds zero_start here form put many noted =
    let place : at ≡ place_of t = omega arith in
    let all : count ≡ length name - 1 = omega arith in
    asked_put t labels name bytes notes h.labels folds (put ∙ ap (λ x. t.bytes ++ x) form) (noted ∙ (λ i. t.notes ++ first_notes (all i) (place i) name))

folded_bytes : (l : List ℕ) → AreFolded l → folded_label l ≡ l
folded_bytes [] h = refl
folded_bytes (b ∷ l) h = let one = h.1 in let rest = folded_bytes l h.2 in cc

-- A name is in lower case.
pub name_folded : (name : List (List ℕ)) → AreLabels name → name ≡ folded_labels name
name_folded [] h = refl
name_folded (l ∷ []) h = λ i. by i ∷ []
  where
    by : l ≡ folded_label l
    by = h ∙ ap folded_label (sym h)
name_folded (l ∷ m ∷ rest) h = λ i. sym (folded_bytes l h.0.bytes) i ∷ name_folded (m ∷ rest) h.1 i

-- ---- a group put, and its length in front

abbrev size_text : ℕ → List ℕ
size_text n = (n / 256 % 256) ∷ (n % 256) ∷ []

pub group_room : (s t u v : Text) (fs : List Flat) (at : ℕ) (t0 : Text) → s ≡ t → t0 ≡ put_flat t (plain_bytes (0 ∷ 0 ∷ [])) → u ≡ put_flats t0 fs → v ≡ u → at ≡ length s.bytes
    → at + 2 ≤ length v.bytes
group_room s t u v fs at t0 same zeros put seen here =
    let both = flats_both fs t0 t0 (record { place = refl; notes = refl }) in
    let whole : v.bytes ≡ t0.bytes ++ both.more = ap (λ x. x.bytes) (seen ∙ put) ∙ both.first in
    let front : t0.bytes ≡ t.bytes ++ 0 ∷ 0 ∷ [] = ap (λ x. x.bytes) (zeros ∙ plain_put t (0 ∷ 0 ∷ [])) in
    omega (arith, ap length whole, ap length front, length-append t0.bytes both.more, length-append t.bytes (0 ∷ 0 ∷ []), ap (λ x. length x.bytes) same)

two_set : (front more : List ℕ) (at a b : ℕ) → at ≡ length front → set (set (front ++ 0 ∷ 0 ∷ more) at a) (at + 1) b ≡ front ++ a ∷ b ∷ more
two_set front more at a b here =
    let one : set (front ++ 0 ∷ 0 ∷ more) at a ≡ front ++ a ∷ 0 ∷ more = ap (λ n. set (front ++ 0 ∷ 0 ∷ more) n a) here ∙ set-append_seam front 0 (0 ∷ more) a in
    let next : at + 1 ≡ length (front ++ a ∷ []) = omega (arith, length-append front (a ∷ [])) in
    let regroup : front ++ a ∷ 0 ∷ more ≡ (front ++ a ∷ []) ++ 0 ∷ more = sym (append_assoc front (a ∷ []) (0 ∷ more)) in
    ap (λ x. set x (at + 1) b) (one ∙ regroup)
    ∙ (ap (λ n. set ((front ++ a ∷ []) ++ 0 ∷ more) n b) next
    ∙ (set-append_seam (front ++ a ∷ []) 0 more b ∙ append_assoc front (a ∷ []) (b ∷ more)))

pub group_written : (s t u v : Text) (fs : List Flat) (at len : ℕ) (t0 : Text) → s ≡ t → t0 ≡ put_flat t (plain_bytes (0 ∷ 0 ∷ [])) → u ≡ put_flats t0 fs → v ≡ u → at ≡ length s.bytes
    → len ≡ length v.bytes → s.start ≡ 0
    → record { start = 0; bytes = set (set v.bytes at ((len - at - 2) / 256 % 256)) (at + 1) ((len - at - 2) % 256); notes = v.notes } ≡ put t (sized_group fs)
unfolding put
group_written s t u v fs at len t0 same zeros put_all seen here long begins =
    let inner : Text = record { start = place_of t + 2; bytes = []; notes = t.notes } in
    let plain = zeros ∙ plain_put t (0 ∷ 0 ∷ []) in
    let front : t0.bytes ≡ t.bytes ++ 0 ∷ 0 ∷ [] = ap (λ x. x.bytes) plain in
    let starts : t0.start ≡ t.start = ap (λ x. x.start) plain in
    let both = flats_both fs t0 inner (record {
      place = omega (arith, ap length front, length-append t.bytes (0 ∷ 0 ∷ []));
      notes = ap (λ x. x.notes) plain;
    }) in
    let more = both.more in
    let group : (group_of t fs).bytes ≡ more = both.second in
    let whole : v.bytes ≡ t.bytes ++ 0 ∷ 0 ∷ more =
    ap (λ x. x.bytes) (seen ∙ put_all) ∙ (both.first ∙ (ap (λ x. x ++ more) front ∙ append_assoc t.bytes (0 ∷ 0 ∷ []) more)) in
    let place : at ≡ length t.bytes = here ∙ ap (λ x. length x.bytes) same in
    let size : len - at - 2 ≡ length more = omega (arith, ap length whole, length-append t.bytes (0 ∷ 0 ∷ more)) in
    let started : 0 ≡ t.start = sym begins ∙ ap (λ x. x.start) same in
    let sizes : size_text (len - at - 2) ≡ bytes_high_first 2 (length (group_of t fs).bytes) = ap size_text (size ∙ ap length (sym group)) in
    let text : set (set v.bytes at ((len - at - 2) / 256 % 256)) (at + 1) ((len - at - 2) % 256) ≡ t.bytes ++ (bytes_high_first 2 (length (group_of t fs).bytes) ++ (group_of t fs).bytes) =
    ap (λ x. set (set x at ((len - at - 2) / 256 % 256)) (at + 1) ((len - at - 2) % 256)) whole
    ∙ (two_set t.bytes more at ((len - at - 2) / 256 % 256) ((len - at - 2) % 256) place
    ∙ (λ i. t.bytes ++ (sizes i ++ sym group i))) in
    let notes : v.notes ≡ (group_of t fs).notes = ap (λ x. x.notes) (seen ∙ put_all) ∙ both.alike.notes in
    λ i. record { start = started i; bytes = text i; notes = notes i }

-- ---- a whole message

pub message_text : (m : Message) (w h q a b c : Text) (n1 n2 n3 n4 : ℕ) → w ≡ empty
    → h ≡ after w (header_pieces m.header (record { questions = n1; answer = n2; authority = n3; additional = n4 }))
    → n1 ≡ length m.questions → n2 ≡ length m.answer → n3 ≡ length m.authority → n4 ≡ length m.additional
    → q ≡ after h (flat_map question_pieces m.questions) → a ≡ after q (flat_map record_pieces m.answer) → b ≡ after a (flat_map record_pieces m.authority)
    → c ≡ after b (flat_map record_pieces m.additional) → c.bytes ≡ encoding m
message_text m w h q a b c n1 n2 n3 n4 new head c1 c2 c3 c4 asked first second third =
    let an = flat_map record_pieces m.answer in
    let au = flat_map record_pieces m.authority in
    let ad = flat_map record_pieces m.additional in
    let headed_is : h ≡ headed m =
    head ∙ (λ i. after (new i) (header_pieces m.header (record { questions = c1 i; answer = c2 i; authority = c3 i; additional = c4 i }))) in
    let questioned_is : q ≡ questioned m = asked ∙ ap (λ t. after t (flat_map question_pieces m.questions)) headed_is in
    let all : c ≡ after (after (after q an) au) ad = third ∙ ap (λ t. after t ad) (second ∙ ap (λ t. after t au) first) in
    let joined : after q (an ++ au ++ ad) ≡ after (after (after q an) au) ad = after-append (an ++ au) ad q ∙ ap (λ t. after t ad) (after-append an au q) in
    ap (λ t. t.bytes) (all ∙ (sym joined ∙ ap (λ t. after t (an ++ au ++ ad)) questioned_is)) ∙ sym (encoding_parts m)

-- The text of a message, where it is within the limit.
abbrev IsText : {X : Type 0} → (X → List ℕ) → Option X → List ℕ → ℕ → Type 0
IsText items o text limit = MatchOption o (limit < length text) (λ v. (items v ≡ text) × (length text ≤ limit))

text_of : {X : Type 0} (items : X → List ℕ) (o : Option X) (b e : List ℕ) (limit : ℕ) → b ≡ e → IsText items o b limit → IsText items o e limit
text_of items o b e limit same h = subst (λ (x : List ℕ). IsText items o x limit) same h

abbrev pub IsGiven : {X : Type 0} → (X → List ℕ) → Option X → Message → ℕ → Type 0
IsGiven items o m limit = MatchOption o (limit < length (encoding m)) (λ v. (items v ≡ encoding m) × (length (items v) ≤ limit))

pub text_given : {X : Type 0} (items : X → List ℕ) (o : Option X) (b e : List ℕ) (limit : ℕ) → b ≡ e → IsText items o b limit
    → MatchOption o (limit < length e) (λ v. (items v ≡ e) × (length (items v) ≤ limit))
text_given items None b e limit same h = text_of items None b e limit same h
text_given items (Some v) b e limit same h =
    let is = text_of items (Some v) b e limit same h in
    (is.0, subst (λ (x : List ℕ). length x ≤ limit) (sym is.0) is.1)

low_two : (a b : ℕ) → bytes_high_first 2 (a % 65536 + b % 65536) ≡ bytes_high_first 2 (a + b)
low_two a b =
    let high : (a % 65536 + b % 65536) / 256 % 256 ≡ (a + b) / 256 % 256 = omega arith in
    let low : (a % 65536 + b % 65536) % 256 ≡ (a + b) % 256 = omega arith in
    λ i. high i ∷ low i ∷ []

pub draft_text : (hd : Header) (questions : List Question) (echo : Option Question) (first second authority additional : List Record) (w h q0 q a0 a b c : Text) (n1 n2 n3 n4 : ℕ) → w ≡ empty
    → h ≡ after w (header_pieces hd (record { questions = n1; answer = n2; authority = n3; additional = n4 }))
    → n1 ≡ length questions % 65536 + length (asked_alone echo) % 65536 → n2 ≡ length first % 65536 + length second % 65536 → n3 ≡ length authority → n4 ≡ length additional
    → q0 ≡ after h (flat_map question_pieces questions) → q ≡ after q0 (flat_map question_pieces (asked_alone echo))
    → a0 ≡ after q (flat_map record_pieces first) → a ≡ after a0 (flat_map record_pieces second)
    → b ≡ after a (flat_map record_pieces authority) → c ≡ after b (flat_map record_pieces additional)
    → c.bytes ≡ encoding (drafted hd questions echo first second authority additional)
draft_text hd questions echo first second authority additional w h q0 q a0 a b c n1 n2 n3 n4 new head c1 c2 c3 c4 listed repeated one two third fourth =
    let m = drafted hd questions echo first second authority additional in
    let low : bytes_high_first 2 n1 ≡ bytes_high_first 2 (length (questions ++ asked_alone echo)) = low_both questions (asked_alone echo) n1 c1 in
    let low-2 : bytes_high_first 2 n2 ≡ bytes_high_first 2 (length (first ++ second)) = low_both first second n2 c2 in
    let counted : h ≡ after w (header_pieces hd (record { questions = length (questions ++ asked_alone echo); answer = length (first ++ second); authority = n3; additional = n4 })) =
    head ∙ (λ i. after w (flat_piece (short_number hd.id) ∷ flat_piece (plain_bytes (high_flags hd ∷ low_flags hd ∷ [])) ∷ flat_piece (plain_bytes (low i)) ∷ flat_piece (plain_bytes (low-2 i))
    ∷ flat_piece (short_number n3) ∷ flat_piece (short_number n4) ∷ [])) in
    message_text m w h q a b c (length (questions ++ asked_alone echo)) (length (first ++ second)) n3 n4 new counted refl refl c3 c4
    (in_parts question_pieces questions (asked_alone echo) h q0 q listed repeated) (in_parts record_pieces first second q a0 a one two) third fourth
  where
    low_both : {X : Type 0} (xs ys : List X) (n : ℕ) → n ≡ length xs % 65536 + length ys % 65536 → bytes_high_first 2 n ≡ bytes_high_first 2 (length (xs ++ ys))
    low_both xs ys n c = ap (bytes_high_first 2) c ∙ (low_two (length xs) (length ys) ∙ ap (bytes_high_first 2) (sym (length-append xs ys)))

    in_parts : {X : Type 0} (f : X → List Piece) (xs ys : List X) (t u v : Text) → u ≡ after t (flat_map f xs) → v ≡ after u (flat_map f ys) → v ≡ after t (flat_map f (xs ++ ys))
    in_parts f xs ys t u v one two =
        two ∙ (ap (λ x. after x (flat_map f ys)) one ∙ (sym (after-append (flat_map f xs) (flat_map f ys) t) ∙ ap (after t) (sym (flat_map-append f xs ys))))

-- A message is the draft that lends all of it.
pub lent_is : (hd : Header) (questions : List Question) (answer authority additional : List Record)
    → drafted hd questions None answer [] authority additional ≡ record { header = hd; questions = questions; answer = answer; authority = authority; additional = additional }
lent_is hd questions answer authority additional = λ i. record { header = hd; questions = append-nil questions i; answer = append-nil answer i; authority = authority; additional = additional }

module _ {X : Type 0} (items : X → List ℕ) (o : Option X) (r : Result X WireError) (d m : Message) (limit : ℕ) (is : d ≡ m) (given : IsGiven items o d limit) (by : r ≡ ok_or o OverLimit) where
  pub lent_ok : IfOk r (λ v. (items v ≡ encoding m) × (length (encoding m) ≤ limit))
  lent_ok = subst (λ (x : Result X WireError). IfOk x (λ v. (items v ≡ encoding m) × (length (encoding m) ≤ limit))) (sym by) (of o (subst (λ (x : Message). IsGiven items o x limit) is given))
    where
      of : (p : Option X) → IsGiven items p m limit → IfOk (ok_or p OverLimit) (λ v. (items v ≡ encoding m) × (length (encoding m) ≤ limit))
      of None h = tt
      of (Some v) h = (h.0, subst (λ (x : List ℕ). length x ≤ limit) h.0 h.1)

  pub lent_err : IfErr r (λ x. RefusesText x (encoding m) limit)
  lent_err = subst (λ (x : Result X WireError). IfErr x (λ y. RefusesText y (encoding m) limit)) (sym by) (of o (subst (λ (x : Message). IsGiven items o x limit) is given))
    where
      of : (p : Option X) → IsGiven items p m limit → IfErr (ok_or p OverLimit) (λ y. RefusesText y (encoding m) limit)
      of None h = h
      of (Some v) h = tt

-- What is said of the bytes that the draft gives is said of those that are handed on.
pub lent_some : {X : Type 0} (P : List ℕ → Message → Type 0) (items : X → List ℕ) (o : Option X) (r : Result X WireError) (d m : Message) → d ≡ m → IfSome o (λ v. P (items v) d) → r ≡ ok_or o OverLimit
    → IfOk r (λ v. P (items v) m)
lent_some {X} P items o r d m is given by =
    subst (λ (x : Result X WireError). IfOk x (λ v. P (items v) m)) (sym by) (of o (subst (λ (x : Message). IfSome o (λ v. P (items v) x)) is given))
  where
    of : (p : Option X) → IfSome p (λ v. P (items v) m) → IfOk (ok_or p OverLimit) (λ v. P (items v) m)
    of None h = tt
    of (Some v) h = h
