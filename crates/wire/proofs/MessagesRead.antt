-- The message that bytes are is the one that is read.
use Rattle.std.proofs.Common.{◌≡◌, ℕ, zero, suc, ◌≤◌, true, false, ◌⊎◌, List, [], ◌∷◌, length, Result, Ok, Err, IfOk, IfErr, IsErrAnd, inl, inr, refl, sym, ◌∙◌, ap, subst, arith}
use Rattle.std.specs.Prelude.{nat_eq, nat_lt}
use Rattle.std.proofs.lemmas.Bool.Decides.{nat_tests}
use Rattle.dname.specs.Spelling.{AreBytes}
use Rattle.message_grammar.specs.Messages.{Message, QuestionsAt, SectionAt, IsMessage}
use Rattle.wire.specs.declared.error.WireError.{WireError}
use Rattle.wire.specs.declared.error.WireError.TheVariants.{Short, BadLabel, PointerNotEarlier, NameTooLong, BadRdataLength, BadRdataName, TrailingBytes, OverLimit, Memory}
use Rattle.wire.specs.Numbers.{two_at}
use Rattle.wire.specs.Results.{Fails, and_then}
use Rattle.wire.specs.Entries.{section_from, questions_from, message_first, message_second, message_third, message_whole, message_of}
use Rattle.wire.proofs.Bytes.{AreSmall, test_read, then_read, was_read, test_yes, test_no}
use Rattle.wire.proofs.Heading.{counts_at, header_stands, header_fits, header_takes}
use Rattle.wire.proofs.EntriesRead.{section_stands, section_read, questions_stand, questions_read}

pub are_small : (bytes : List ℕ) → AreBytes bytes → AreSmall bytes
are_small [] h i = omega arith
are_small (b ∷ bytes) h zero = h.0
are_small (b ∷ bytes) h (suc i) = are_small bytes h.1 i

-- ---- what was read stands

message_stands : (bytes : List ℕ) → AreSmall bytes → IfOk (message_of bytes) (IsMessage bytes)
unfolding message_of
message_stands bytes small =
    test_read (IsMessage bytes) (nat_lt (length bytes) 12) (Err Short) _ (λ _. tt)
    (λ long.
    let fits : 12 ≤ length bytes = grind (arith, nat_tests) in
    let head = header_fits bytes small in
    then_read (λ q. QuestionsAt bytes 12 q.0 q.1 × (two_at bytes 4 ≡ length q.0)) (IsMessage bytes) (questions_from (two_at bytes 4) bytes 12) (message_first bytes)
    (questions_stand (two_at bytes 4) bytes 12 small)
    (λ q asked. then_read (λ x. SectionAt bytes q.1 (two_at bytes 6) x.0 x.1) (IsMessage bytes) (section_from (two_at bytes 6) bytes q.1) (message_second bytes q.0)
    (section_stands (two_at bytes 6) bytes q.1 small)
    (λ a answer. then_read (λ x. SectionAt bytes a.1 (two_at bytes 8) x.0 x.1) (IsMessage bytes) (section_from (two_at bytes 8) bytes a.1) (message_third bytes q.0 a.0)
    (section_stands (two_at bytes 8) bytes a.1 small)
    (λ n authority. then_read (λ x. SectionAt bytes n.1 (two_at bytes 10) x.0 x.1) (IsMessage bytes) (section_from (two_at bytes 10) bytes n.1) (message_whole bytes q.0 a.0 n.0)
    (section_stands (two_at bytes 10) bytes n.1 small)
    (λ d additional. test_read (IsMessage bytes) (nat_eq d.1 (length bytes)) _ (Err TrailingBytes)
    (λ ends.
    let e : d.1 ≡ length bytes = grind (arith, nat_tests) in
    record {
      counts = counts_at bytes;
      fit_counts = head.1;
      fits_header = head.0;
      header = header_stands bytes small fits;
      behind_questions = q.1;
      behind_answer = a.1;
      behind_authority = n.1;
      count = asked.1;
      questions = asked.0;
      answer = answer;
      authority = authority;
      additional = subst (λ (k : ℕ). SectionAt bytes n.1 (two_at bytes 10) d.0 k) e additional;
    })
    (λ _. tt))))))

-- ---- what stands is read

pub message_read : (bytes : List ℕ) (m : Message) → IsMessage bytes m → message_of bytes ≡ Ok m
unfolding message_of
message_read bytes m h =
    let head = header_takes bytes m.header h.counts h.header h.fits_header h.fit_counts in
    let long = head.long in
    let a : nat_lt (length bytes) 12 ≡ false = grind (arith, nat_tests) in
    let same : nat_eq (length bytes) (length bytes) ≡ true = grind (arith, nat_tests) in
    let many : two_at bytes 4 ≡ length m.questions = head.questions ∙ h.count in
    let asked = ap (λ n. questions_from n bytes 12) many ∙ questions_read m.questions bytes 12 h.behind_questions h.questions in
    let answer = ap (λ n. section_from n bytes h.behind_questions) head.answer ∙ section_read bytes h.behind_questions h.counts.answer m.answer h.behind_answer h.answer in
    let authority = ap (λ n. section_from n bytes h.behind_answer) head.authority ∙ section_read bytes h.behind_answer h.counts.authority m.authority h.behind_authority h.authority in
    let additional = ap (λ n. section_from n bytes h.behind_authority) head.additional
    ∙ section_read bytes h.behind_authority h.counts.additional m.additional (length bytes) h.additional in
    let header = head.header in
    test_no (nat_lt (length bytes) 12) (Err Short) _ a
    ∙ (ap (λ x. and_then x (message_first bytes)) asked
    ∙ (ap (λ x. and_then x (message_second bytes m.questions)) answer
    ∙ (ap (λ x. and_then x (message_third bytes m.questions m.answer)) authority
    ∙ (ap (λ x. and_then x (message_whole bytes m.questions m.answer m.authority)) additional
    ∙ (test_yes (nat_eq (length bytes) (length bytes)) _ (Err TrailingBytes) same
    ∙ (λ i. Ok (record { header = header i; questions = m.questions; answer = m.answer; authority = m.authority; additional = m.additional })))))))

pub message_there : (bytes : List ℕ) (m : Message) → AreSmall bytes → message_of bytes ≡ Ok m → IsMessage bytes m
message_there bytes m small = was_read (IsMessage bytes) (message_of bytes) m (message_stands bytes small)

-- ---- refusals

ok_or_err : {X : Type 0} (x : X) (e : WireError) (r : Result X WireError) → r ≡ Ok x → r ≡ Err e → ⊥
ok_or_err x e r h k = cc

-- A refusal for another reason than memory refuses every value.
pub fails_all : {X Y : Type 0} (P : Y → Type 0) (read : Result X WireError) (e : WireError) → ((y : Y) → P y → (x : X) × (read ≡ Ok x)) → Fails e read
    → (e ≡ Memory) ⊎ ((y : Y) → P y → ⊥)
fails_all P read Memory found h = inl refl
fails_all P read Short found h = inr (λ y p. ok_or_err (found y p).0 Short read (found y p).1 h)
fails_all P read BadLabel found h = inr (λ y p. ok_or_err (found y p).0 BadLabel read (found y p).1 h)
fails_all P read PointerNotEarlier found h = inr (λ y p. ok_or_err (found y p).0 PointerNotEarlier read (found y p).1 h)
fails_all P read NameTooLong found h = inr (λ y p. ok_or_err (found y p).0 NameTooLong read (found y p).1 h)
fails_all P read BadRdataLength found h = inr (λ y p. ok_or_err (found y p).0 BadRdataLength read (found y p).1 h)
fails_all P read BadRdataName found h = inr (λ y p. ok_or_err (found y p).0 BadRdataName read (found y p).1 h)
fails_all P read TrailingBytes found h = inr (λ y p. ok_or_err (found y p).0 TrailingBytes read (found y p).1 h)
fails_all P read OverLimit found h = inr (λ y p. ok_or_err (found y p).0 OverLimit read (found y p).1 h)

pub no_message : (bytes : List ℕ) (e : WireError) → Fails e (message_of bytes) → (e ≡ Memory) ⊎ ((m : Message) → IsMessage bytes m → ⊥)
no_message bytes e h = fails_all (IsMessage bytes) (message_of bytes) e (λ m is. (m, message_read bytes m is)) h

-- What a `?` hands on.
pub none_handed_on : {X : Type 0} (bytes : List ℕ) (r : Result X WireError) (e : WireError) → IsErrAnd r (λ y. y ≡ e) → Fails e (message_of bytes)
    → IfErr r (λ y. (y ≡ Memory) ⊎ ((m : Message) → IsMessage bytes m → ⊥))
none_handed_on bytes (Ok x) e h k = tt
none_handed_on bytes (Err y) e h k = no_message bytes y (subst (λ (z : WireError). Fails z (message_of bytes)) (sym h) k)
