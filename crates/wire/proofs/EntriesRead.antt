-- Records, questions and sections that stand at a place are those that are read there.
use Rattle.std.proofs.Common.{◌≡◌, ℕ, zero, suc, ◌+◌, ◌<◌, ◌≤◌, false, List, [], ◌∷◌, length, Option, Some, None, Ok, Err, IfOk, refl, sym, ◌∙◌, ap, subst, arith}
use Rattle.std.specs.Prelude.{nat_lt, slice_range}
use Rattle.std.proofs.lemmas.Bool.Decides.{nat_tests}
use Rattle.rdata.specs.Data.{Datum, Ipv4, Ns, Cname, Soa, Ptr, Mx, Txt, Ipv6, Srv, type_of}
use Rattle.rdata.specs.Records.{Record}
use Rattle.rdata.specs.Types.{type_number}
use Rattle.rdata.specs.declared.rtype.RType.{RType}
use Rattle.message_grammar.specs.Names.{NameAt}
use Rattle.message_grammar.specs.Pieces.{Flat, plain_bytes}
use Rattle.message_grammar.specs.Places.{FlatsAt, PiecesAt}
use Rattle.message_grammar.specs.Messages.{Question, data_flats, internet, any_record_pieces, served_type, ttl_of, QuestionAt, QuestionsAt, RecordAt, SkippedAt, SectionAt, none_left, kept_first, skipped_first}
use Rattle.wire.specs.declared.error.WireError.TheVariants.{Short}
use Rattle.wire.specs.Numbers.{two_at, four_at}
use Rattle.wire.specs.Parts.{message_faults, name_at}
use Rattle.message_grammar.proofs.Served.{served_numbers}
use Rattle.wire.specs.Values.{value_at}
use Rattle.wire.specs.Results.{and_then}
use Rattle.wire.specs.Entries.{kept_value, entry_kept, entry_sized, entry_behind, entry_at, with_kept, section_from, question_behind, question_at, with_question, questions_from}
use Rattle.wire.proofs.Bytes.{AreSmall, test_read, then_read, test_no, range_stands, at-along, two_stands, two_small, two_takes, four_stands, four_small, four_takes}
use Rattle.wire.proofs.NamesRead.{name_stands, name_read}
use Rattle.wire.proofs.DataRead.{IsValue, value_stands, value_read, kind_of, data_within}

-- ---- served types

-- What a type and a class are, by what they are read as.
abbrev AreServed : ℕ → ℕ → Option RType → Type 0
AreServed kind class None = served_type kind class ≡ None
AreServed kind class (Some t) = (kind ≡ type_number t) × (class ≡ internet)

served_is : (kind class : ℕ) → AreServed kind class (served_type kind class)
served_is kind class = by (served_type kind class) refl
  where
    by : (o : Option RType) → served_type kind class ≡ o → AreServed kind class o
    by None h = h
    by (Some t) h = served_numbers kind class t h

data_served : (d : Datum) → served_type (type_of d) internet ≡ Some (kind_of d)
data_served (Ipv4 a) = refl
data_served (Ns n) = refl
data_served (Cname n) = refl
data_served (Soa s) = refl
data_served (Ptr n) = refl
data_served (Mx p n) = refl
data_served (Txt ts) = refl
data_served (Ipv6 a) = refl
data_served (Srv s) = refl

kind_small : (d : Datum) → type_of d < 65536
kind_small (Ipv4 a) = omega arith
kind_small (Ns n) = omega arith
kind_small (Cname n) = omega arith
kind_small (Soa s) = omega arith
kind_small (Ptr n) = omega arith
kind_small (Mx p n) = omega arith
kind_small (Txt ts) = omega arith
kind_small (Ipv6 a) = omega arith
kind_small (Srv s) = omega arith

-- ---- records

row_stands : (bytes : List ℕ) (at : ℕ) (owner : List (List ℕ)) (mid : ℕ) (rdata : List Flat) → AreSmall bytes → NameAt bytes at owner mid
    → mid + 10 + two_at bytes (mid + 8) ≤ length bytes → FlatsAt bytes (mid + 10) rdata (mid + 10 + two_at bytes (mid + 8))
    → PiecesAt bytes at (any_record_pieces owner (two_at bytes mid) (two_at bytes (mid + 2)) (four_at bytes (mid + 4)) rdata) (mid + 10 + two_at bytes (mid + 8))
row_stands bytes at owner mid rdata small name fits stands =
    let size = two_at bytes (mid + 8) in
    let end = mid + 10 + size in
    let place : mid + 10 ≡ mid + 8 + 2 = omega arith in (
      mid,
      name,
      (
        mid + 2,
        two_stands bytes mid small (omega arith),
        (
          mid + 4,
          at-along bytes (mid + 2) (mid + 2) _ (mid + 2 + 2) (mid + 4) (two_stands bytes (mid + 2) small (omega arith)) refl (omega arith),
          (
            mid + 8,
            at-along bytes (mid + 4) (mid + 4) _ (mid + 4 + 4) (mid + 8) (four_stands bytes (mid + 4) small (omega arith)) refl (omega arith),
            (
              end,
              record {
                size = size;
                fits = two_small bytes (mid + 8) small;
                length_first = two_stands bytes (mid + 8) small (omega arith);
                stands = subst (λ (n : ℕ). FlatsAt bytes n rdata end) place stands;
                fills = omega arith;
              },
              refl,
            ),
          ),
        ),
      ),
    )

-- The record there, or one that is left out.
abbrev pub IsEntry : List ℕ → ℕ → Option Record × ℕ → Type 0
IsEntry bytes at (None, end) = SkippedAt bytes at end
IsEntry bytes at (Some r, end) = RecordAt bytes at r end

kept_stands : (bytes : List ℕ) (at : ℕ) (owner : List (List ℕ)) (mid : ℕ) → AreSmall bytes → NameAt bytes at owner mid
    → mid + 10 + two_at bytes (mid + 8) ≤ length bytes → (found : Option RType)
    → AreServed (two_at bytes mid) (two_at bytes (mid + 2)) found
    → IfOk (entry_kept found bytes owner (four_at bytes (mid + 4)) (mid + 10) (mid + 10 + two_at bytes (mid + 8))) (IsEntry bytes at)
kept_stands bytes at owner mid small name fits None other =
    let size = two_at bytes (mid + 8) in
    let rdata = slice_range bytes (mid + 10) (mid + 10 + size) in
    let text = range_stands bytes (mid + 10) size fits in
    record {
      owner = owner;
      kind = two_at bytes mid;
      class = two_at bytes (mid + 2);
      ttl = four_at bytes (mid + 4);
      rdata = rdata;
      fits_kind = two_small bytes mid small;
      fits_class = two_small bytes (mid + 2) small;
      other = other;
      stands = row_stands bytes at owner mid (plain_bytes rdata ∷ []) small name fits (mid + 10 + size, text.0, refl);
    }
kept_stands bytes at owner mid small name fits (Some t) is =
    let end = mid + 10 + two_at bytes (mid + 8) in
    let ttl = four_at bytes (mid + 4) in
    then_read (IsValue bytes t (mid + 10) end) (IsEntry bytes at) (value_at t bytes (mid + 10) end) (kept_value owner ttl end) (value_stands t bytes (mid + 10) end small fits)
    (λ value h.
    let kind : two_at bytes mid ≡ type_of value = is.0 ∙ sym h.2 in
    let row = row_stands bytes at owner mid (data_flats value) small name fits h.0 in
    record {
      ttl = ttl;
      fits_ttl = four_small bytes (mid + 4) small;
      is_ttl = refl;
      fits = h.1;
      stands = subst (λ (n : ℕ). PiecesAt bytes at (any_record_pieces owner (type_of value) n ttl (data_flats value)) end) is.1
          (subst (λ (n : ℕ). PiecesAt bytes at (any_record_pieces owner n (two_at bytes (mid + 2)) ttl (data_flats value)) end) kind row);
    })

pub entry_stands : (bytes : List ℕ) (at : ℕ) → AreSmall bytes → IfOk (entry_at bytes at) (IsEntry bytes at)
unfolding entry_at
entry_stands bytes at small =
    then_read (λ x. NameAt bytes at x.0 x.1 × (x.1 ≤ length bytes)) (IsEntry bytes at) (name_at bytes message_faults (length bytes) at) (entry_behind bytes)
    (name_stands bytes message_faults (length bytes) at small (omega arith))
    (λ x h.
    let mid = x.1 in
    test_read (IsEntry bytes at) (nat_lt (length bytes) (mid + 10)) (Err Short) (entry_sized bytes x.0 mid) (λ _. tt)
    (λ _. test_read (IsEntry bytes at) (nat_lt (length bytes) (mid + 10 + two_at bytes (mid + 8))) (Err Short) _ (λ _. tt)
    (λ over.
    let fits : mid + 10 + two_at bytes (mid + 8) ≤ length bytes = grind (arith, nat_tests) in
    kept_stands bytes at x.0 mid small h.0 fits (served_type (two_at bytes mid) (two_at bytes (mid + 2))) (served_is (two_at bytes mid) (two_at bytes (mid + 2))))))

-- What is read where a record's pieces stand.
row_read : (bytes : List ℕ) (at : ℕ) (owner : List (List ℕ)) (kind class ttl : ℕ) (rdata : List Flat) (end : ℕ)
    (p : PiecesAt bytes at (any_record_pieces owner kind class ttl rdata) end) → kind < 65536 → class < 65536 → end ≤ length bytes
    → entry_at bytes at ≡ entry_kept (served_type kind class) bytes owner (four_at bytes (p.0 + 4)) (p.0 + 10) end
unfolding entry_at
row_read bytes at owner kind class ttl rdata end p k c fits =
    let mid = p.0 in
    let l1 = p.2.1.last in
    let l2 = p.2.2.1.last in
    let l3 = p.2.2.2.1.last in
    let group = p.2.2.2.2.1 in
    let fills = group.fills in
    let ends = p.2.2.2.2.2 in
    let name = name_read bytes message_faults (length bytes) at owner mid p.1 (omega arith) (omega arith) in
    let first = two_takes bytes mid mid kind p.2.0 p.2.1 refl k in
    let second = two_takes bytes (mid + 2) p.2.0 class p.2.2.0 p.2.2.1 (omega arith) c in
    let size = two_takes bytes (mid + 8) p.2.2.2.0 group.size (p.2.2.2.0 + 2) group.length_first (omega arith) group.fits in
    let past : mid + 10 + two_at bytes (mid + 8) ≡ end = omega arith in
    let a : nat_lt (length bytes) (mid + 10) ≡ false = grind (arith, nat_tests) in
    let b : nat_lt (length bytes) (mid + 10 + two_at bytes (mid + 8)) ≡ false = grind (arith, nat_tests) in
    ap (λ x. and_then x (entry_behind bytes)) name ∙ (test_no (nat_lt (length bytes) (mid + 10)) (Err Short) (entry_sized bytes owner mid) a
    ∙ (test_no (nat_lt (length bytes) (mid + 10 + two_at bytes (mid + 8))) (Err Short) _ b
    ∙ (λ i. entry_kept (served_type (first i) (second i)) bytes owner (four_at bytes (mid + 4)) (mid + 10) (past i))))

pub record_read : (bytes : List ℕ) (at : ℕ) (r : Record) (end : ℕ) → RecordAt bytes at r end → entry_at bytes at ≡ Ok (Some r, end)
record_read bytes at r end h =
    let p = h.stands in
    let mid = p.0 in
    let l1 = p.2.1.last in
    let l2 = p.2.2.1.last in
    let l3 = p.2.2.2.1.last in
    let group = p.2.2.2.2.1 in
    let fills = group.fills in
    let ends = p.2.2.2.2.2 in
    let within = data_within r.value bytes (p.2.2.2.0 + 2) p.2.2.2.2.0 group.stands in
    let place : p.2.2.2.0 + 2 ≡ mid + 10 = omega arith in
    let there = subst (λ (n : ℕ). FlatsAt bytes n (data_flats r.value) end) place (subst (λ (n : ℕ). FlatsAt bytes (p.2.2.2.0 + 2) (data_flats r.value) n) (sym ends) group.stands) in
    let row = row_read bytes at r.owner (type_of r.value) internet h.ttl (data_flats r.value) end p (kind_small r.value) (omega arith) (omega arith) in
    let value = value_read r.value bytes (mid + 10) end h.fits there (omega arith) in
    let number = four_takes bytes (mid + 4) p.2.2.0 h.ttl p.2.2.2.0 p.2.2.2.1 (omega arith) h.fits_ttl in
    let life : ttl_of (four_at bytes (mid + 4)) ≡ r.ttl = ap ttl_of number ∙ sym h.is_ttl in
    row ∙ (ap (λ o. entry_kept o bytes r.owner (four_at bytes (mid + 4)) (mid + 10) end) (data_served r.value)
    ∙ (ap (λ x. and_then x (kept_value r.owner (four_at bytes (mid + 4)) end)) value ∙ (λ i. Ok (Some (record { owner = r.owner; ttl = life i; value = r.value }), end))))

pub skipped_read : (bytes : List ℕ) (at end : ℕ) → SkippedAt bytes at end → entry_at bytes at ≡ Ok (None, end)
skipped_read bytes at end h =
    let p = h.stands in
    let group = p.2.2.2.2.1 in
    let ends = p.2.2.2.2.2 in
    let text = group.stands.1.there in
    let last = group.stands.1.last in
    let close = group.stands.2 in
    let row = row_read bytes at h.owner h.kind h.class h.ttl (plain_bytes h.rdata ∷ []) end p h.fits_kind h.fits_class (omega arith) in
    row ∙ ap (λ o. entry_kept o bytes h.owner (four_at bytes (p.0 + 4)) (p.0 + 10) end) h.other

-- ---- sections

abbrev IsSection : List ℕ → ℕ → ℕ → List Record × ℕ → Type 0
IsSection bytes at count found = SectionAt bytes at count found.0 found.1

section_on : (bytes : List ℕ) (at count : ℕ) (found : Option Record × ℕ) → IsEntry bytes at found → (rest : List Record × ℕ) → IsSection bytes found.1 count rest
    → IfOk (with_kept found.0 rest) (IsSection bytes at (suc count))
section_on bytes at count (None, mid) h (rest, end) k = skipped_first at (suc count) count mid end rest (omega arith) h k
section_on bytes at count (Some r, mid) h (rest, end) k = kept_first at (suc count) count mid end r rest (omega arith) h k

pub section_stands : (count : ℕ) (bytes : List ℕ) (at : ℕ) → AreSmall bytes → IfOk (section_from count bytes at) (IsSection bytes at count)
section_stands zero bytes at small = none_left at 0 at refl refl
section_stands (suc count) bytes at small =
    then_read (IsEntry bytes at) (IsSection bytes at (suc count)) (entry_at bytes at) (λ r. and_then (section_from count bytes r.1) (with_kept r.0)) (entry_stands bytes at small)
    (λ found h. then_read (IsSection bytes found.1 count) (IsSection bytes at (suc count)) (section_from count bytes found.1) (with_kept found.0)
    (section_stands count bytes found.1 small) (λ rest k. section_on bytes at count found h rest k))

pub section_read : (bytes : List ℕ) (at count : ℕ) (records : List Record) (end : ℕ) → SectionAt bytes at count records end → section_from count bytes at ≡ Ok (records, end)
section_read bytes at count records end (none_left _ _ _ none e) = ap (λ n. section_from n bytes at) none ∙ (λ i. Ok ([], sym e i))
section_read bytes at count records end (kept_first _ _ left mid _ r rest more first others) =
    let n : count ≡ suc left = omega arith in
    ap (λ k. section_from k bytes at) n ∙ (ap (λ x. and_then x (λ f. and_then (section_from left bytes f.1) (with_kept f.0))) (record_read bytes at r mid first)
    ∙ ap (λ x. and_then x (with_kept (Some r))) (section_read bytes mid left rest end others))
section_read bytes at count records end (skipped_first _ _ left mid _ rest more first others) =
    let n : count ≡ suc left = omega arith in
    ap (λ k. section_from k bytes at) n ∙ (ap (λ x. and_then x (λ f. and_then (section_from left bytes f.1) (with_kept f.0))) (skipped_read bytes at mid first)
    ∙ ap (λ x. and_then x (with_kept None)) (section_read bytes mid left records end others))

-- ---- questions

abbrev IsRequest : List ℕ → ℕ → Question × ℕ → Type 0
IsRequest bytes at found = QuestionAt bytes at found.0 found.1

question_stands : (bytes : List ℕ) (at : ℕ) → AreSmall bytes → IfOk (question_at bytes at) (IsRequest bytes at)
unfolding question_at
question_stands bytes at small =
    then_read (λ x. NameAt bytes at x.0 x.1 × (x.1 ≤ length bytes)) (IsRequest bytes at) (name_at bytes message_faults (length bytes) at) (question_behind bytes)
    (name_stands bytes message_faults (length bytes) at small (omega arith))
    (λ x h.
    let mid = x.1 in
    test_read (IsRequest bytes at) (nat_lt (length bytes) (mid + 4)) (Err Short) _ (λ _. tt)
    (λ over.
    let fits : mid + 4 ≤ length bytes = grind (arith, nat_tests) in
    record {
      fits_type = two_small bytes mid small;
      fits_class = two_small bytes (mid + 2) small;
      behind_name = mid;
      name = h.0;
      rest = (
        mid + 2,
        two_stands bytes mid small (omega arith),
        (
          mid + 4,
          at-along bytes (mid + 2) (mid + 2) _ (mid + 2 + 2) (mid + 4) (two_stands bytes (mid + 2) small (omega arith)) refl (omega arith),
          refl,
        ),
      );
    }))

question_read : (bytes : List ℕ) (at : ℕ) (q : Question) (end : ℕ) → QuestionAt bytes at q end → question_at bytes at ≡ Ok (q, end)
unfolding question_at
question_read bytes at q end h =
    let mid = h.behind_name in
    let l1 = h.rest.1.last in
    let l2 = h.rest.2.1.last in
    let there = h.rest.2.1.there in
    let ends = h.rest.2.2 in
    let name = name_read bytes message_faults (length bytes) at q.name mid h.name (omega arith) (omega arith) in
    let kind = two_takes bytes mid mid q.qtype h.rest.0 h.rest.1 refl h.fits_type in
    let class = two_takes bytes (mid + 2) h.rest.0 q.qclass h.rest.2.0 h.rest.2.1 (omega arith) h.fits_class in
    let a : nat_lt (length bytes) (mid + 4) ≡ false = grind (arith, nat_tests) in
    let past : mid + 4 ≡ end = omega arith in
    ap (λ x. and_then x (question_behind bytes)) name ∙ (test_no (nat_lt (length bytes) (mid + 4)) (Err Short) _ a
    ∙ (λ i. Ok (record { name = q.name; qtype = kind i; qclass = class i }, past i)))

abbrev AreAsked : List ℕ → ℕ → ℕ → List Question × ℕ → Type 0
AreAsked bytes at count found = QuestionsAt bytes at found.0 found.1 × (count ≡ length found.0)

pub questions_stand : (count : ℕ) (bytes : List ℕ) (at : ℕ) → AreSmall bytes → IfOk (questions_from count bytes at) (AreAsked bytes at count)
questions_stand zero bytes at small = (refl, refl)
questions_stand (suc count) bytes at small =
    then_read (IsRequest bytes at) (AreAsked bytes at (suc count)) (question_at bytes at) (λ q. and_then (questions_from count bytes q.1) (with_question q.0)) (question_stands bytes at small)
    (λ found h. then_read (AreAsked bytes found.1 count) (AreAsked bytes at (suc count)) (questions_from count bytes found.1) (with_question found.0)
    (questions_stand count bytes found.1 small) (λ rest k. ((found.1, h, k.0), ap suc k.1)))

pub questions_read : (questions : List Question) (bytes : List ℕ) (at end : ℕ) → QuestionsAt bytes at questions end → questions_from (length questions) bytes at ≡ Ok (questions, end)
questions_read [] bytes at end h = λ i. Ok ([], sym h i)
questions_read (q ∷ questions) bytes at end (mid, first, rest) =
    ap (λ x. and_then x (λ f. and_then (questions_from (length questions) bytes f.1) (with_question f.0))) (question_read bytes at q mid first)
    ∙ ap (λ x. and_then x (with_question q)) (questions_read questions bytes mid end rest)
