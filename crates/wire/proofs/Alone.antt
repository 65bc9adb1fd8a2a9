-- The one question of a message, read alone.
use Rattle.std.proofs.Common.{◌≡◌, ℕ, ◌+◌, ◌-◌, ◌<◌, ◌≤◌, true, false, inl, inr, List, [], ◌∷◌, length, Result, Ok, Err, IfErr, IsErrAnd, refl, sym, ◌∙◌, ap, subst, arith}
use Rattle.std.specs.Prelude.{nat_lt, if◌then◌else◌}
use Rattle.std.proofs.lemmas.Bool.Decides.{nat_tests}
use Rattle.dname.specs.Labels.{folded_labels}
use Rattle.message_grammar.specs.Names.{SpeltAt}
use Rattle.message_grammar.specs.Messages.{Question, Message, IsMessage}
use Rattle.wire.specs.declared.error.WireError.{WireError}
use Rattle.wire.specs.declared.error.WireError.TheVariants.{Short}
use Rattle.wire.specs.Numbers.{two_at}
use Rattle.wire.specs.Parts.{message_faults, spelt_at, name_at, in_lower_case}
use Rattle.wire.specs.Results.{Fails, and_then}
use Rattle.wire.specs.Entries.{question_behind, question_at, questions_from, with_question, message_first, message_of}
use Rattle.wire.specs.Asked.{AreBehind, IsOnlyQuestion, HasNotOne}
use Rattle.wire.proofs.Bytes.{AreSmall, was_read}
use Rattle.wire.proofs.Walks.{fails_with}
use Rattle.wire.proofs.Whole.{first, questions_fail}
use Rattle.wire.proofs.Heading.{header_takes}
use Rattle.wire.proofs.NamesRead.{spelt_stands}
use Rattle.wire.proofs.MessagesRead.{message_read, message_there}

-- A name that was read, in lower case.
named : (bytes : List ℕ) (letters : List (List ℕ)) (end : ℕ) → spelt_at bytes message_faults (length bytes) 12 ≡ Ok (letters, end)
    → name_at bytes message_faults (length bytes) 12 ≡ Ok (folded_labels letters, end)
unfolding name_at
named bytes letters end h = ap (λ x. and_then x in_lower_case) h

unnamed : (bytes : List ℕ) (e : WireError) → spelt_at bytes message_faults (length bytes) 12 ≡ Err e → name_at bytes message_faults (length bytes) 12 ≡ Err e
unfolding name_at
unnamed bytes e h = ap (λ x. and_then x in_lower_case) h

-- The question behind a name.
abbrev pub asked : List ℕ → List (List ℕ) → ℕ → Question
asked bytes name at = record { name = name; qtype = two_at bytes at; qclass = two_at bytes (at + 2) }

pub one_asked : (bytes : List ℕ) (name : List (List ℕ)) (at : ℕ) → name_at bytes message_faults (length bytes) 12 ≡ Ok (name, at) → at + 4 ≤ length bytes
    → questions_from 1 bytes 12 ≡ Ok (asked bytes name at ∷ [], at + 4)
unfolding question_at
one_asked bytes name at h fits =
    let b : nat_lt (length bytes) (at + 4) ≡ false = grind (arith, nat_tests) in
    let one : question_at bytes 12 ≡ Ok (asked bytes name at, at + 4) =
    ap (λ x. and_then x (question_behind bytes)) h ∙ ap (λ c. if c then Err Short else Ok (asked bytes name at, at + 4)) b in
    ap (λ x. and_then x (λ q. and_then (questions_from 0 bytes q.1) (with_question q.0))) one

pub none_asked : (bytes : List ℕ) (e : WireError) → name_at bytes message_faults (length bytes) 12 ≡ Err e → questions_from 1 bytes 12 ≡ Err e
unfolding question_at
none_asked bytes e h = ap (λ x. and_then (and_then x (question_behind bytes)) (λ q. and_then (questions_from 0 bytes q.1) (with_question q.0))) h

pub short_asked : (bytes : List ℕ) (name : List (List ℕ)) (at : ℕ) → name_at bytes message_faults (length bytes) 12 ≡ Ok (name, at) → length bytes < at + 4
    → questions_from 1 bytes 12 ≡ Err Short
unfolding question_at
short_asked bytes name at h over =
    let b : nat_lt (length bytes) (at + 4) ≡ true = grind (arith, nat_tests) in
    let one : question_at bytes 12 ≡ Err Short =
    ap (λ x. and_then x (question_behind bytes)) h ∙ ap (λ c. if c then Err Short else Ok (asked bytes name at, at + 4)) b in
    ap (λ x. and_then x (λ q. and_then (questions_from 0 bytes q.1) (with_question q.0))) one

-- The name is refused, and so is the message.
pub letters_fail : (bytes : List ℕ) (n : ℕ) (e : WireError) → 12 ≤ length bytes → n ≡ two_at bytes 4 → n ≡ 1 → Fails e (spelt_at bytes message_faults (length bytes) 12)
    → Fails e (message_of bytes)
letters_fail bytes n e long is one h =
    questions_fail bytes n e long is
    (fails_with e (spelt_at bytes message_faults (length bytes) 12) (questions_from n bytes 12)
    (λ k. ap (λ m. questions_from m bytes 12) one ∙ none_asked bytes e (unnamed bytes e k)) h)

pub question_short : (bytes : List ℕ) (letters : List (List ℕ)) (n at : ℕ) → 12 ≤ length bytes → n ≡ two_at bytes 4 → n ≡ 1
    → spelt_at bytes message_faults (length bytes) 12 ≡ Ok (letters, at) → at ≤ length bytes → length bytes - at < 4 → Fails Short (message_of bytes)
question_short bytes letters n at long is one h within less =
    let over : length bytes < at + 4 = omega arith in
    questions_fail bytes n Short long is (ap (λ m. questions_from m bytes 12) one ∙ short_asked bytes (folded_labels letters) at (named bytes letters at h) over)

-- The message as far as its question.
pub question_first : (bytes : List ℕ) (letters : List (List ℕ)) (n at : ℕ) → 12 ≤ length bytes → n ≡ two_at bytes 4 → n ≡ 1
    → spelt_at bytes message_faults (length bytes) 12 ≡ Ok (letters, at) → at ≤ length bytes → 4 ≤ length bytes - at
    → message_of bytes ≡ message_first bytes (asked bytes (folded_labels letters) at ∷ [], at + 4)
question_first bytes letters n at long is one h within room =
    let fits : at + 4 ≤ length bytes = omega arith in
    (first bytes n (at + 4) (asked bytes (folded_labels letters) at ∷ []) long is
    (ap (λ m. questions_from m bytes 12) one ∙ one_asked bytes (folded_labels letters) at (named bytes letters at h) fits)).so_far

letters_stand : (bytes : List ℕ) (letters : List (List ℕ)) (at : ℕ) → AreSmall bytes → spelt_at bytes message_faults (length bytes) 12 ≡ Ok (letters, at) → SpeltAt bytes 12 letters at
letters_stand bytes letters at small h =
    (was_read (λ x. SpeltAt bytes 12 x.0 x.1 × (x.1 ≤ length bytes)) (spelt_at bytes message_faults (length bytes) 12) (letters, at)
    (spelt_stands bytes message_faults (length bytes) 12 small (omega arith)) h).0

pub question_alone : (bytes : List ℕ) (name : List (List ℕ)) (echo : Question) (n at : ℕ) → AreSmall bytes → 12 ≤ length bytes → n ≡ two_at bytes 4 → n ≡ 1
    → spelt_at bytes message_faults (length bytes) 12 ≡ Ok (echo.name, at) → at ≤ length bytes → 4 ≤ length bytes - at → AreBehind bytes (at + 4)
    → name ≡ folded_labels echo.name → echo.qtype ≡ two_at bytes at → echo.qclass ≡ two_at bytes (at + 2) → IsOnlyQuestion bytes name echo
question_alone bytes name echo n at small long is one h within room behind folds qtype qclass =
    let read = behind (asked bytes (folded_labels echo.name) at ∷ []) (question_first bytes echo.name n at long is one h within room) in
    record {
      message = read.0;
      is = message_there bytes read.0 small read.1;
      only = read.2 ∙ (λ i. record { name = sym folds i; qtype = sym qtype i; qclass = sym qclass i } ∷ []);
      end = at;
      spelt = letters_stand bytes echo.name at small h;
    }

-- Where the header announces another number, no message has one question.
other_count : (bytes : List ℕ) (n : ℕ) → n ≡ two_at bytes 4 → (n ≡ 1 → ⊥) → (m : Message) → IsMessage bytes m → length m.questions ≡ 1 → ⊥
other_count bytes n is other m h one =
    let head = header_takes bytes m.header h.counts h.header h.fits_header h.fit_counts in
    other (is ∙ (head.questions ∙ (h.count ∙ one)))

pub not_one : (bytes : List ℕ) (n : ℕ) → AreSmall bytes → n ≡ two_at bytes 4 → (n ≡ 1 → ⊥) → HasNotOne bytes
not_one bytes n small is other = by (message_of bytes) refl
  where
    by : (r : Result Message WireError) → message_of bytes ≡ r → HasNotOne bytes
    by (Ok m) h = let there = message_there bytes m small h in inr (m, there, other_count bytes n is other m there)
    by (Err e) h = inl (λ m is. let read = message_read bytes m is in absurd (cc))

-- What a `?` hands on, where sections were read.
pub behind_handed_on : {X : Type 0} (bytes : List ℕ) (at : ℕ) (r : Result X WireError) (e : WireError) → IsErrAnd r (λ y. y ≡ e)
    → ((questions : List Question) → message_of bytes ≡ message_first bytes (questions, at) → Fails e (message_of bytes))
    → IfErr r (λ y. (questions : List Question) → message_of bytes ≡ message_first bytes (questions, at) → Fails y (message_of bytes))
behind_handed_on bytes at (Ok x) e h k = tt
behind_handed_on bytes at (Err y) e h k = subst (λ (z : WireError). (questions : List Question) → message_of bytes ≡ message_first bytes (questions, at) → Fails z (message_of bytes)) (sym h) k
