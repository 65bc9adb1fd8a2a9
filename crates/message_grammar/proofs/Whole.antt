-- The encoding of a message is that message.
use Rattle.std.proofs.Common.{ap, ◌≡◌, ℕ, suc, ◌+◌, ◌<◌, ◌≤◌, Bool, true, false, List, [], ◌∷◌, ◌++◌, length, map, refl, sym, subst, arith, length-append}
use Rattle.std.specs.Prelude.{nat_lt, if◌then◌else◌, flat_map}
use Rattle.std.specs.List.{AllByRecursion}
use Rattle.std.proofs.lemmas.List.{length-map}
use Rattle.std.proofs.lemmas.Bool.Decides.{nat_tests}
use Rattle.dname.specs.Labels.{folded_label, folded_labels, wire}
use Rattle.rdata.specs.Data.{Datum, Ipv4, Ns, Cname, Soa, Ptr, Mx, Txt, Ipv6, Srv, type_of}
use Rattle.rdata.specs.Records.{Record}
use Rattle.message_grammar.specs.Names.{Stands, root_here, label_here, pointer_here, NameAt, SpeltAt, FullAt}
use Rattle.message_grammar.specs.Pieces.{Flat, Piece, plain_bytes}
use Rattle.message_grammar.specs.Places.{PiecesAt}
use Rattle.message_grammar.specs.Messages.{Header, Question, Message, Counts, header_pieces, question_pieces, data_flats, record_pieces, internet, any_record_pieces, message_pieces, counts_of, encoding, ttl_of, QuestionAt, QuestionsAt, RecordAt, SectionAt, none_left, kept_first, skipped_first, IsMessage, IsQuestion, IsRecord, AreNamesOf, IsWritable, folded_question, folded_message}
use Rattle.message_grammar.proofs.Reading.{folds_to, folded_long, name_one, spelling_of}
use Rattle.message_grammar.proofs.Growing.{stands-later}
use Rattle.message_grammar.proofs.Written.{IsFlat, IsPiece, written_stands}

-- ---- rows of pieces

pub pieces_split : (bytes : List ℕ) (at : ℕ) (ps qs : List Piece) (end : ℕ) → PiecesAt bytes at (ps ++ qs) end
    → (mid : ℕ) × PiecesAt bytes at ps mid × PiecesAt bytes mid qs end
pieces_split bytes at [] qs end h = (at, refl, h)
pieces_split bytes at (p ∷ ps) qs end (next, first, rest) =
    let more = pieces_split bytes next ps qs end rest in
    (more.0, (next, first, more.1), more.2)

all-append : (P : Piece → Type 0) (ps qs : List Piece) → AllByRecursion P ps → AllByRecursion P qs → AllByRecursion P (ps ++ qs)
all-append P [] qs h k = k
all-append P (p ∷ ps) qs (first, rest) k = (first, all-append P ps qs rest k)

data_is : (d : Datum) → AreNamesOf d → AllByRecursion IsFlat (data_flats d)
data_is (Ipv4 a) h = (tt, tt)
data_is (Ns n) h = (h, tt)
data_is (Cname n) h = (h, tt)
data_is (Soa s) h = (h.0, (h.1, (tt, (tt, (tt, (tt, (tt, tt)))))))
data_is (Ptr n) h = (h, tt)
data_is (Mx p n) h = (tt, (h, tt))
data_is (Txt ts) h = (tt, tt)
data_is (Ipv6 a) h = (tt, tt)
data_is (Srv s) h = (tt, (tt, (tt, (h, tt))))

questions_are : (qs : List Question) → AllByRecursion IsQuestion qs → AllByRecursion IsPiece (flat_map question_pieces qs)
questions_are [] h = tt
questions_are (q ∷ qs) (first, rest) = (first.name, (tt, (tt, questions_are qs rest)))

records_are : (rs : List Record) → AllByRecursion IsRecord rs → AllByRecursion IsPiece (flat_map record_pieces rs)
records_are [] h = tt
records_are (r ∷ rs) (first, rest) = (first.owner, (tt, (tt, (tt, (data_is r.value first.names, records_are rs rest)))))

-- A message's pieces through its questions, its answer, its authority section.
abbrev first_pieces : Message → List Piece
first_pieces m = header_pieces m.header (counts_of m) ++ flat_map question_pieces m.questions

abbrev second_pieces : Message → List Piece
second_pieces m = first_pieces m ++ flat_map record_pieces m.answer

abbrev third_pieces : Message → List Piece
third_pieces m = second_pieces m ++ flat_map record_pieces m.authority

pub pieces_are : (m : Message) → IsWritable m → AllByRecursion IsPiece (message_pieces m)
pieces_are m h =
    all-append IsPiece (third_pieces m) (flat_map record_pieces m.additional)
    (all-append IsPiece (second_pieces m) (flat_map record_pieces m.authority)
    (all-append IsPiece (first_pieces m) (flat_map record_pieces m.answer)
    (all-append IsPiece (header_pieces m.header (counts_of m)) (flat_map question_pieces m.questions) (tt, (tt, (tt, (tt, (tt, (tt, tt))))))
    (questions_are m.questions h.questions))
    (records_are m.answer h.answer))
    (records_are m.authority h.authority))
    (records_are m.additional h.additional)

-- ---- parts of a message

pub wire_folded_long : (labels : List (List ℕ)) → length (wire (folded_labels labels)) ≡ length (wire labels)
wire_folded_long [] = refl
wire_folded_long (l ∷ ls) =
    omega (arith, wire_folded_long ls, folded_long l, length-append l (wire ls), length-append (folded_label l) (wire (folded_labels ls)))

-- A spelling at a place is that name at the place.
pub spelling_is_name : (bytes : List ℕ) (at : ℕ) (labels : List (List ℕ)) (end : ℕ) → SpeltAt bytes at labels end → NameAt bytes at (folded_labels labels) end
spelling_is_name bytes at labels end h =
    let s = h.short in
    record { stands = folds_to bytes at at end labels h.stands; short = omega (arith, wire_folded_long labels) }

question_at : (bytes : List ℕ) (at : ℕ) (q : Question) (end : ℕ) → IsQuestion q → PiecesAt bytes at (question_pieces q) end → QuestionAt bytes at (folded_question q) end
question_at bytes at q end is (mid, name, rest) = record {
  fits_type = is.qtype;
  fits_class = is.qclass;
  behind_name = mid;
  name = spelling_is_name bytes at q.name mid name;
  rest = rest;
}

pub spelling_gives : (bytes : List ℕ) (at : ℕ) (labels name : List (List ℕ)) (x y : ℕ) → SpeltAt bytes at labels x → NameAt bytes at name y
    → (name ≡ folded_labels labels) × (x ≡ y)
spelling_gives bytes at labels name x y h k =
    let both = name_one bytes at (folded_labels labels) name x y (spelling_is_name bytes at labels x h) k in
    (sym both.0, both.1)

pub name_spelt : (bytes : List ℕ) (at : ℕ) (name : List (List ℕ)) (end : ℕ) → NameAt bytes at name end → (labels : List (List ℕ)) × SpeltAt bytes at labels end
name_spelt bytes at name end h =
    let found = spelling_of bytes at at end name h.stands in
    let s = h.short in
    let same : length (wire name) ≡ length (wire (folded_labels found.0)) = ap (λ x. length (wire x)) found.2 in
    (found.0, record { stands = found.1; short = omega (arith, wire_folded_long found.0) })

in_place : (bytes : List ℕ) (at end : ℕ) (name : List (List ℕ)) → Stands folded_label bytes 0 at name end → end ≡ at + length (wire name)
in_place bytes at end name (root_here _ _ _ z e) = omega arith
in_place bytes at end name (label_here _ _ _ w seen rest l s r) =
    omega (arith, in_place bytes (at + 1 + length w) end rest r, folded_long w, ap length s, length-append seen (wire rest))
in_place bytes at end name (pointer_here _ _ _ target past _ p less r e) = absurd (omega arith)

pub full_there : (bytes : List ℕ) (at : ℕ) (name : List (List ℕ)) (end : ℕ) → FullAt bytes at name end → NameAt bytes at name end × (end ≡ at + length (wire name))
full_there bytes at name end h =
    (record { stands = stands-later folded_label bytes 0 at end name h.stands at (omega arith); short = h.short }, in_place bytes at end name h.stands)

questions_at : (bytes : List ℕ) (at : ℕ) (qs : List Question) (end : ℕ) → AllByRecursion IsQuestion qs → PiecesAt bytes at (flat_map question_pieces qs) end
    → QuestionsAt bytes at (map folded_question qs) end
questions_at bytes at [] end is h = h
questions_at bytes at (q ∷ qs) end (one, others) h =
    let parts = pieces_split bytes at (question_pieces q) (flat_map question_pieces qs) end h in
    (parts.0, question_at bytes at q parts.0 one parts.1, questions_at bytes parts.0 qs end others parts.2)

small_ttl : (n : ℕ) → n ≤ 2147483647 → n ≡ ttl_of n
small_ttl n h = by (nat_lt 2147483647 n) refl
  where
    by : (b : Bool) → nat_lt 2147483647 n ≡ b → n ≡ (if b then 0 else n)
    by true test = absurd (grind (arith, nat_tests))
    by false test = refl

record_at : (bytes : List ℕ) (at : ℕ) (r : Record) (end : ℕ) → IsRecord r → PiecesAt bytes at (record_pieces r) end → RecordAt bytes at r end
record_at bytes at r end is h =
    let few = is.ttl in
    record { ttl = r.ttl; fits_ttl = omega arith; is_ttl = small_ttl r.ttl few; fits = is.fits; stands = h }

section_at : (bytes : List ℕ) (at : ℕ) (rs : List Record) (end : ℕ) → AllByRecursion IsRecord rs → PiecesAt bytes at (flat_map record_pieces rs) end
    → SectionAt bytes at (length rs) rs end
section_at bytes at [] end is h = none_left at 0 end refl h
section_at bytes at (r ∷ rs) end (one, others) h =
    let parts = pieces_split bytes at (record_pieces r) (flat_map record_pieces rs) end h in
    kept_first at (suc (length rs)) (length rs) parts.0 end r rs (omega arith) (record_at bytes at r parts.0 one parts.1)
    (section_at bytes parts.0 rs end others parts.2)

-- ---- each thing takes a place

pub name_takes : (f : List ℕ → List ℕ) (bytes : List ℕ) (start at end : ℕ) (labels : List (List ℕ)) → Stands f bytes start at labels end → at < end
name_takes f bytes start at end labels (root_here _ _ _ z e) = omega arith
name_takes f bytes start at end labels (label_here _ _ _ w seen rest l s r) =
    let more = name_takes f bytes start (at + 1 + length w) end rest r in omega arith
name_takes f bytes start at end labels (pointer_here _ _ _ target past _ p less r e) = omega arith

pub question_takes : (bytes : List ℕ) (at : ℕ) (q : Question) (end : ℕ) → QuestionAt bytes at q end → at < end
question_takes bytes at q end h =
    let n = name_takes folded_label bytes at at h.behind_name q.name h.name.stands in
    let a = h.rest.1.last in
    let b = h.rest.2.1.last in
    let c = h.rest.2.2 in
    omega arith

pub questions_take : (bytes : List ℕ) (at : ℕ) (qs : List Question) (end : ℕ) → QuestionsAt bytes at qs end → at + length qs ≤ end
questions_take bytes at [] end h = omega arith
questions_take bytes at (q ∷ qs) end (mid, first, rest) =
    let a = question_takes bytes at q mid first in
    let b = questions_take bytes mid qs end rest in
    omega arith

pub record_takes : (bytes : List ℕ) (at : ℕ) (owner : List (List ℕ)) (kind class ttl : ℕ) (rdata : List Flat) (end : ℕ)
    → PiecesAt bytes at (any_record_pieces owner kind class ttl rdata) end → at < end
record_takes bytes at owner kind class ttl rdata end h =
    let n = name_takes folded_label bytes at at h.0 owner h.1.stands in
    let a = h.2.1.last in
    let b = h.2.2.1.last in
    let c = h.2.2.2.1.last in
    let d = h.2.2.2.2.1.fills in
    let e = h.2.2.2.2.2 in
    omega arith

pub section_takes : (bytes : List ℕ) (at count : ℕ) (rs : List Record) (end : ℕ) → SectionAt bytes at count rs end → at + count ≤ end
section_takes bytes at count rs end (none_left _ _ _ none e) = omega arith
section_takes bytes at count rs end (kept_first _ _ left mid _ r rest more first others) =
    let a = record_takes bytes at r.owner (type_of r.value) internet first.ttl (data_flats r.value) mid first.stands in
    let b = section_takes bytes mid left rest end others in
    omega arith
section_takes bytes at count rs end (skipped_first _ _ left mid _ rest more first others) =
    let a = record_takes bytes at first.owner first.kind first.class first.ttl (plain_bytes first.rdata ∷ []) mid first.stands in
    let b = section_takes bytes mid left rs end others in
    omega arith

-- ---- the whole message

header_ends : (bytes : List ℕ) (h : Header) (counts : Counts) (end : ℕ) → PiecesAt bytes 0 (header_pieces h counts) end → end ≡ 12
header_ends bytes h counts end p =
    let a = p.1.last in
    let b = p.2.1.last in
    let c = p.2.2.1.last in
    let d = p.2.2.2.1.last in
    let e = p.2.2.2.2.1.last in
    let f = p.2.2.2.2.2.1.last in
    let g = p.2.2.2.2.2.2 in
    omega arith

pub encoding_holds : (m : Message) → IsWritable m → length (encoding m) ≤ 65535 → IsMessage (encoding m) (folded_message m)
unfolding encoding
encoding_holds m is few =
    let text = encoding m in
    let whole = written_stands (message_pieces m) (pieces_are m is) (omega arith) in
    let fourth = pieces_split text 0 (third_pieces m) (flat_map record_pieces m.additional) (length text) whole in
    let third = pieces_split text 0 (second_pieces m) (flat_map record_pieces m.authority) fourth.0 fourth.1 in
    let second = pieces_split text 0 (first_pieces m) (flat_map record_pieces m.answer) third.0 third.1 in
    let first = pieces_split text 0 (header_pieces m.header (counts_of m)) (flat_map question_pieces m.questions) second.0 second.1 in
    let ends : first.0 ≡ 12 = header_ends text m.header (counts_of m) first.0 first.1 in
    let P : ℕ → Type 0 = λ n. PiecesAt text 0 (header_pieces m.header (counts_of m)) n in
    let Q : ℕ → Type 0 = λ n. PiecesAt text n (flat_map question_pieces m.questions) second.0 in
    let asked = questions_at text 12 m.questions second.0 is.questions (subst Q ends first.2) in
    let answer = section_at text second.0 m.answer third.0 is.answer second.2 in
    let authority = section_at text third.0 m.authority fourth.0 is.authority third.2 in
    let additional = section_at text fourth.0 m.additional (length text) is.additional fourth.2 in
    let a = questions_take text 12 (map folded_question m.questions) second.0 asked in
    let b = section_takes text second.0 (length m.answer) m.answer third.0 answer in
    let c = section_takes text third.0 (length m.authority) m.authority fourth.0 authority in
    let d = section_takes text fourth.0 (length m.additional) m.additional (length text) additional in
    let same = length-map m.questions folded_question in
    record {
      counts = counts_of m;
      fit_counts = record { questions = omega arith; answer = omega arith; authority = omega arith; additional = omega arith };
      fits_header = is.header;
      header = subst P ends first.1;
      behind_questions = second.0;
      behind_answer = third.0;
      behind_authority = fourth.0;
      count = sym same;
      questions = asked;
      answer = answer;
      authority = authority;
      additional = additional;
    }
