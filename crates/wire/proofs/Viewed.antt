-- A message seen in its bytes is the one that is read.
use Rattle.std.proofs.Common.{◌≡◌, ℕ, zero, suc, ◌≤◌, ◌<◌, ◌+◌, ◌-◌, Bool, true, false, List, [], ◌∷◌, length, Result, Ok, Err, IsOk, refl, sym, ◌∙◌, ap, subst, arith}
use Rattle.std.specs.Prelude.{nat_lt, if◌then◌else◌}
use Rattle.std.proofs.lemmas.Bool.Decides.{nat_tests}
use Rattle.rdata.specs.Records.{Record}
use Rattle.message_grammar.specs.Messages.{Question, Message}
use Rattle.wire.specs.declared.error.WireError.{WireError}
use Rattle.wire.specs.declared.error.WireError.TheVariants.{Short, TrailingBytes}
use Rattle.wire.specs.Numbers.{two_at}
use Rattle.wire.specs.Heads.{header_of}
use Rattle.wire.specs.Results.{and_then, end_of}
use Rattle.wire.specs.Entries.{section_from, question_at, with_question, questions_from, message_first, message_second, message_third, message_whole, message_of}
use Rattle.wire.specs.Parts.{message_faults, name_at}
use Rattle.wire.specs.Views.{listed, labels_in}
use Rattle.wire.proofs.Alone.{one_asked, none_asked, short_asked}
use Rattle.wire.proofs.Ends.{not_ended}
use Rattle.wire.proofs.Walks.{Spelt}
use Rattle.wire.proofs.Whole.{First, Second, Third, opened, first, second, third, trailing, all_read}

pub listing : {X : Type 0} (r : Result (List X × ℕ) WireError) (end : ℕ) → Ok end ≡ end_of r → r ≡ Ok (listed r, end)
listing (Ok (xs, past)) end h = let same : end ≡ past = cc in λ i. Ok (xs, sym same i)
listing (Err e) end h = absurd (cc)

-- What the header announces as so many questions, from the first place on.
abbrev pub questions_in : List ℕ → List Question
questions_in bytes = listed (questions_from (two_at bytes 4) bytes 12)

pub as_first : (bytes : List ℕ) (answer : ℕ) → 12 ≤ length bytes → Ok answer ≡ end_of (questions_from (two_at bytes 4) bytes 12) → First bytes (questions_in bytes) answer
as_first bytes answer long h = first bytes (two_at bytes 4) answer (questions_in bytes) long refl (listing (questions_from (two_at bytes 4) bytes 12) answer h)

pub too_short : (bytes : List ℕ) → length bytes < 12 → message_of bytes ≡ Err Short
unfolding message_of
too_short bytes h =
    let b : nat_lt (length bytes) 12 ≡ true = grind (arith, nat_tests) in
    ap (λ c. if c then Err Short else and_then (questions_from (two_at bytes 4) bytes 12) (message_first bytes)) b

pub no_questions : (bytes : List ℕ) (e : WireError) → 12 ≤ length bytes → Err e ≡ end_of (questions_from (two_at bytes 4) bytes 12) → message_of bytes ≡ Err e
no_questions bytes e long h = opened bytes long ∙ ap (λ x. and_then x (message_first bytes)) (not_ended (questions_from (two_at bytes 4) bytes 12) e h)

-- The sections behind questions that were read.
module _ (bytes : List ℕ) (questions : List Question) where
  abbrev records : ℕ → ℕ → List Record
  records count at = listed (section_from count bytes at)

  pub as_second : (answer authority : ℕ) → First bytes questions answer → Ok authority ≡ end_of (section_from (two_at bytes 6) bytes answer)
      → Second bytes questions (records (two_at bytes 6) answer) authority
  as_second answer authority f h =
      second bytes (two_at bytes 6) answer authority questions (records (two_at bytes 6) answer) f refl (listing (section_from (two_at bytes 6) bytes answer) authority h)

  pub as_third : (answer authority additional : ℕ) → Second bytes questions (records (two_at bytes 6) answer) authority
      → Ok additional ≡ end_of (section_from (two_at bytes 8) bytes authority) → Third bytes questions (records (two_at bytes 6) answer) (records (two_at bytes 8) authority) additional
  as_third answer authority additional s h =
      third bytes (two_at bytes 8) authority additional questions (records (two_at bytes 6) answer) (records (two_at bytes 8) authority) s refl
      (listing (section_from (two_at bytes 8) bytes authority) additional h)

  -- Refusals.
  pub no_answer : (answer : ℕ) (e : WireError) → First bytes questions answer → Err e ≡ end_of (section_from (two_at bytes 6) bytes answer) → message_of bytes ≡ Err e
  no_answer answer e f h = f.so_far ∙ ap (λ x. and_then x (message_second bytes questions)) (not_ended (section_from (two_at bytes 6) bytes answer) e h)

  pub no_authority : (answer authority : ℕ) (e : WireError) → Second bytes questions (records (two_at bytes 6) answer) authority
      → Err e ≡ end_of (section_from (two_at bytes 8) bytes authority) → message_of bytes ≡ Err e
  no_authority answer authority e s h =
      s.so_far ∙ ap (λ x. and_then x (message_third bytes questions (records (two_at bytes 6) answer))) (not_ended (section_from (two_at bytes 8) bytes authority) e h)

  pub no_additional : (answer authority additional : ℕ) (e : WireError)
      → Third bytes questions (records (two_at bytes 6) answer) (records (two_at bytes 8) authority) additional
      → Err e ≡ end_of (section_from (two_at bytes 10) bytes additional) → message_of bytes ≡ Err e
  no_additional answer authority additional e t h =
      t.so_far ∙ ap (λ x. and_then x (message_whole bytes questions (records (two_at bytes 6) answer) (records (two_at bytes 8) authority)))
      (not_ended (section_from (two_at bytes 10) bytes additional) e h)

  pub more_behind : (answer authority additional end : ℕ) → Third bytes questions (records (two_at bytes 6) answer) (records (two_at bytes 8) authority) additional
      → Ok end ≡ end_of (section_from (two_at bytes 10) bytes additional) → (end ≡ length bytes → ⊥) → message_of bytes ≡ Err TrailingBytes
  more_behind answer authority additional end t h other =
      trailing bytes (two_at bytes 10) additional end questions (records (two_at bytes 6) answer) (records (two_at bytes 8) authority) (records (two_at bytes 10) additional) t refl
      (listing (section_from (two_at bytes 10) bytes additional) end h) other

  -- The message of these questions and of the sections from these places on.
  abbrev pub sections : ℕ → ℕ → ℕ → Message
  sections answer authority additional = record {
    header = header_of bytes;
    questions = questions;
    answer = records (two_at bytes 6) answer;
    authority = records (two_at bytes 8) authority;
    additional = records (two_at bytes 10) additional;
  }

  pub all_seen : (answer authority additional end : ℕ) → Third bytes questions (records (two_at bytes 6) answer) (records (two_at bytes 8) authority) additional
      → Ok end ≡ end_of (section_from (two_at bytes 10) bytes additional) → end ≡ length bytes → message_of bytes ≡ Ok (sections answer authority additional)
  all_seen answer authority additional end t h same =
      all_read bytes (header_of bytes) (two_at bytes 10) additional end questions (records (two_at bytes 6) answer) (records (two_at bytes 8) authority) (records (two_at bytes 10) additional)
      t refl (listing (section_from (two_at bytes 10) bytes additional) end h) same refl

-- ---- its one question

pub record OneAsked (bytes : List ℕ) (answer : ℕ) : Type 0 where
  pub first : 4 ≤ answer
  pub within : answer ≤ length bytes
  pub named : IsOk (name_at bytes message_faults (length bytes) 12)
  pub is : listed (questions_from 1 bytes 12)
      ≡ record { name = labels_in (name_at bytes message_faults (length bytes) 12); qtype = two_at bytes (answer - 4); qclass = two_at bytes (answer - 2) } ∷ []

one_by : (bytes : List ℕ) (answer : ℕ) (name : List (List ℕ)) (at : ℕ) (b : Bool) → nat_lt (length bytes) (at + 4) ≡ b
    → name_at bytes message_faults (length bytes) 12 ≡ Ok (name, at) → end_of (questions_from 1 bytes 12) ≡ Ok answer → OneAsked bytes answer
one_by bytes answer name at true e h k =
    let less : length bytes < at + 4 = grind (arith, nat_tests) in
    let both : Err Short ≡ Ok answer = sym (ap end_of (short_asked bytes name at h less)) ∙ k in
    absurd (cc)
one_by bytes answer name at false e h k =
    let fits : at + 4 ≤ length bytes = grind (arith, nat_tests) in
    let one = one_asked bytes name at h fits in
    let both : Ok (at + 4) ≡ Ok answer = sym (ap end_of one) ∙ k in
    let end : at + 4 ≡ answer = cc in
    let kind : at ≡ answer - 4 = omega arith in
    let class : at + 2 ≡ answer - 2 = omega arith in
    let labels : name ≡ labels_in (name_at bytes message_faults (length bytes) 12) = sym (ap labels_in h) in
    record {
      first = omega arith;
      within = omega arith;
      named = subst IsOk (sym h) refl;
      is = ap listed one ∙ (λ i. record { name = labels i; qtype = two_at bytes (kind i); qclass = two_at bytes (class i) } ∷ []);
    }

one_named : (bytes : List ℕ) (answer : ℕ) (r : Spelt) → name_at bytes message_faults (length bytes) 12 ≡ r → end_of (questions_from 1 bytes 12) ≡ Ok answer → OneAsked bytes answer
one_named bytes answer (Ok (name, at)) h k = one_by bytes answer name at (nat_lt (length bytes) (at + 4)) refl h k
one_named bytes answer (Err e) h k = let both : Err e ≡ Ok answer = sym (ap end_of (none_asked bytes e h)) ∙ k in absurd (cc)

pub asked_one : (bytes : List ℕ) (n answer : ℕ) → n ≡ 1 → end_of (questions_from n bytes 12) ≡ Ok answer → OneAsked bytes answer
asked_one bytes n answer one h =
    one_named bytes answer (name_at bytes message_faults (length bytes) 12) refl (ap (λ k. end_of (questions_from k bytes 12)) (sym one) ∙ h)

-- ---- what the one question is

first_type : List Question → ℕ
first_type [] = 0
first_type (q ∷ qs) = q.qtype

first_class : List Question → ℕ
first_class [] = 0
first_class (q ∷ qs) = q.qclass

first_name : List Question → List (List ℕ)
first_name [] = []
first_name (q ∷ qs) = q.name

module _ (bytes : List ℕ) (answer : ℕ) (one : OneAsked bytes answer) (q : Question) where
  abbrev IsRequest : ℕ → Type 0
  IsRequest n = listed (questions_from n bytes 12) ≡ q ∷ []

  pub asked_type : (n : ℕ) → n ≡ 1 → IsRequest n → two_at bytes (answer - 4) ≡ q.qtype
  unfolding first_type
  asked_type n e h = ap first_type (sym one.is ∙ (ap (λ k. listed (questions_from k bytes 12)) (sym e) ∙ h))

  pub asked_class : (n : ℕ) → n ≡ 1 → IsRequest n → two_at bytes (answer - 2) ≡ q.qclass
  unfolding first_class
  asked_class n e h = ap first_class (sym one.is ∙ (ap (λ k. listed (questions_from k bytes 12)) (sym e) ∙ h))

  pub asked_name : (n : ℕ) → n ≡ 1 → IsRequest n → labels_in (name_at bytes message_faults (length bytes) 12) ≡ q.name
  unfolding first_name
  asked_name n e h = ap first_name (sym one.is ∙ (ap (λ k. listed (questions_from k bytes 12)) (sym e) ∙ h))

  pub is_asked : (n : ℕ) → n ≡ 1 → labels_in (name_at bytes message_faults (length bytes) 12) ≡ q.name → two_at bytes (answer - 4) ≡ q.qtype → two_at bytes (answer - 2) ≡ q.qclass → IsRequest n
  is_asked n e name kind class =
      ap (λ k. listed (questions_from k bytes 12)) e ∙ (one.is ∙ (λ i. record { name = name i; qtype = kind i; qclass = class i } ∷ []))

-- Where the header announces another number, it is not one question.
Counts : ℕ → Result (List Question × ℕ) WireError → Type 0
Counts n r = IsOk r → length (listed r) ≡ n

count_rest : (n : ℕ) (q : Question) (r : Result (List Question × ℕ) WireError) → Counts n r → Counts (suc n) (and_then r (with_question q))
unfolding Counts
count_rest n q (Ok (qs, end)) k ok = ap suc (k refl)
count_rest n q (Err e) k ok = let no : false ≡ true = ok in absurd (cc)

count_first : (bytes : List ℕ) (n : ℕ) (r : Result (Question × ℕ) WireError) → ((next : ℕ) → Counts n (questions_from n bytes next))
    → Counts (suc n) (and_then r (λ q. and_then (questions_from n bytes q.1) (with_question q.0)))
unfolding Counts
count_first bytes n (Ok (q, next)) k ok = count_rest n q (questions_from n bytes next) (k next) ok
count_first bytes n (Err e) k ok = let no : false ≡ true = ok in absurd (cc)

counted : (bytes : List ℕ) (n at : ℕ) → Counts n (questions_from n bytes at)
unfolding Counts
counted bytes zero at h = refl
counted bytes (suc n) at h = count_first bytes n (question_at bytes at) (λ next. counted bytes n next) h

ok_by : {X : Type 0} (r : Result (X × ℕ) WireError) (end : ℕ) → end_of r ≡ Ok end → IsOk r
ok_by (Ok x) end h = refl
ok_by (Err e) end h = absurd (cc)

pub other_number : (bytes : List ℕ) (n answer : ℕ) (q : Question) → end_of (questions_from n bytes 12) ≡ Ok answer → (n ≡ 1 → ⊥) → listed (questions_from n bytes 12) ≡ q ∷ [] → ⊥
unfolding Counts
other_number bytes n answer q h other is = other (sym (counted bytes n 12 (ok_by (questions_from n bytes 12) answer h)) ∙ ap length is)
