-- Strings, questions and records read one after the other.
use Rattle.std.proofs.Common.{◌≡◌, ℕ, zero, suc, ◌+◌, ◌-◌, ◌<◌, ◌≤◌, true, false, List, [], ◌∷◌, ◌++◌, Option, Some, None, Result, Ok, Err, refl, sym, ◌∙◌, ap, arith, append_assoc}
use Rattle.std.specs.Prelude.{nat_lt, if◌then◌else◌}
use Rattle.std.specs.Option.{option_to_list}
use Rattle.std.proofs.lemmas.Bool.Decides.{nat_tests}
use Rattle.std.proofs.lemmas.List.{append-nil}
use Rattle.rdata.specs.Records.{Record}
use Rattle.message_grammar.specs.Messages.{Question}
use Rattle.wire.specs.declared.error.WireError.{WireError}
use Rattle.wire.specs.Results.{Fails, and_then}
use Rattle.wire.specs.Values.{string_at, with_string, strings_from}
use Rattle.wire.specs.Entries.{entry_at, with_kept, section_from, question_at, with_question, questions_from}
use Rattle.wire.proofs.Walks.{fails_with}

-- ---- character-strings

abbrev pub Strings : Type 0
Strings = Result (List (List ℕ)) WireError

-- The strings from a place before the end on.
pub strings_more : (fuel : ℕ) (bytes : List ℕ) (place end : ℕ) → end - place ≤ fuel → place < end
    → strings_from fuel bytes place end ≡ and_then (string_at bytes place end) (λ s. and_then (strings_from (fuel - 1) bytes s.1 end) (with_string s.0))
strings_more zero bytes place end h less = absurd (omega arith)
strings_more (suc fuel) bytes place end h less =
    let b : nat_lt place end ≡ true = grind (arith, nat_tests) in
    let n : fuel ≡ suc fuel - 1 = omega arith in
    ap (λ c. if c then and_then (string_at bytes place end) (λ s. and_then (strings_from fuel bytes s.1 end) (with_string s.0)) else Ok []) b
    ∙ ap (λ k. and_then (string_at bytes place end) (λ s. and_then (strings_from k bytes s.1 end) (with_string s.0))) n

pub strings_none : (fuel : ℕ) (bytes : List ℕ) (place end : ℕ) → end ≤ place → strings_from fuel bytes place end ≡ Ok []
strings_none zero bytes place end h = refl
strings_none (suc fuel) bytes place end h =
    let b : nat_lt place end ≡ false = grind (arith, nat_tests) in
    ap (λ c. if c then and_then (string_at bytes place end) (λ s. and_then (strings_from fuel bytes s.1 end) (with_string s.0)) else Ok []) b

-- ---- records

abbrev pub Section : Type 0
Section = Result (List Record × ℕ) WireError

abbrev pub behind_records : List Record → List Record × ℕ → Section
behind_records front (rest, end) = Ok (front ++ rest, end)

abbrev pub IsSectionRow : List ℕ → ℕ → ℕ → ℕ → ℕ → List Record → Type 0
IsSectionRow bytes count at i place front = section_from count bytes at ≡ and_then (section_from (count - i) bytes place) (behind_records front)

no_records : (r : Section) → r ≡ and_then r (behind_records [])
no_records (Ok (rest, end)) = refl
no_records (Err e) = refl

pub section_begins : (bytes : List ℕ) (count at : ℕ) → IsSectionRow bytes count at 0 at []
section_begins bytes count at =
    let n : count ≡ count - 0 = omega arith in
    no_records (section_from count bytes at) ∙ ap (λ k. and_then (section_from k bytes at) (behind_records [])) n

behind_kept : (found : Option Record) (front : List Record) (r : Section) → and_then (and_then r (with_kept found)) (behind_records front) ≡ and_then r (behind_records (front ++ option_to_list found))
behind_kept None front (Ok (rest, end)) = λ i. Ok (sym (append-nil front) i ++ rest, end)
behind_kept (Some r) front (Ok (rest, end)) = λ i. Ok (sym (append_assoc front (r ∷ []) rest) i, end)
behind_kept None front (Err e) = refl
behind_kept (Some r) front (Err e) = refl

pub section_more : (bytes : List ℕ) (count i place : ℕ) → i < count
    → section_from (count - i) bytes place ≡ and_then (entry_at bytes place) (λ r. and_then (section_from (count - (i + 1)) bytes r.1) (with_kept r.0))
section_more bytes count i place less =
    let n : count - i ≡ suc (count - (i + 1)) = omega arith in
    ap (λ k. section_from k bytes place) n

pub section_on : (bytes : List ℕ) (count at i place : ℕ) (front new : List Record) (found : Option Record) (next : ℕ) → IsSectionRow bytes count at i place front → i < count
    → entry_at bytes place ≡ Ok (found, next) → new ≡ front ++ option_to_list found → IsSectionRow bytes count at (i + 1) next new
section_on bytes count at i place front new found next row less h e =
    let step = section_more bytes count i place less ∙ ap (λ x. and_then x (λ r. and_then (section_from (count - (i + 1)) bytes r.1) (with_kept r.0))) h in
    row ∙ (ap (λ x. and_then x (behind_records front)) step ∙ (behind_kept found front (section_from (count - (i + 1)) bytes next)
    ∙ ap (λ x. and_then (section_from (count - (i + 1)) bytes next) (behind_records x)) (sym e)))

pub section_fails : (bytes : List ℕ) (count at i place : ℕ) (front : List Record) (e : WireError) → IsSectionRow bytes count at i place front → i < count
    → Fails e (entry_at bytes place) → Fails e (section_from count bytes at)
section_fails bytes count at i place front e row less h =
    fails_with e (entry_at bytes place) (section_from count bytes at)
    (λ k. row ∙ ap (λ x. and_then x (behind_records front))
    (section_more bytes count i place less ∙ ap (λ x. and_then x (λ r. and_then (section_from (count - (i + 1)) bytes r.1) (with_kept r.0))) k)) h

pub section_ends : (bytes : List ℕ) (count at i place : ℕ) (front : List Record) → IsSectionRow bytes count at i place front → count ≤ i
    → section_from count bytes at ≡ Ok (front, place)
section_ends bytes count at i place front row past =
    let n : count - i ≡ 0 = omega arith in
    row ∙ (ap (λ k. and_then (section_from k bytes place) (behind_records front)) n ∙ (λ j. Ok (append-nil front j, place)))

-- ---- questions

abbrev pub Asked : Type 0
Asked = Result (List Question × ℕ) WireError

abbrev pub behind_questions : List Question → List Question × ℕ → Asked
behind_questions front (rest, end) = Ok (front ++ rest, end)

abbrev pub IsQuestionRow : List ℕ → ℕ → ℕ → ℕ → ℕ → List Question → Type 0
IsQuestionRow bytes count at i place front = questions_from count bytes at ≡ and_then (questions_from (count - i) bytes place) (behind_questions front)

no_questions : (r : Asked) → r ≡ and_then r (behind_questions [])
no_questions (Ok (rest, end)) = refl
no_questions (Err e) = refl

pub questions_begin : (bytes : List ℕ) (count at : ℕ) → IsQuestionRow bytes count at 0 at []
questions_begin bytes count at =
    let n : count ≡ count - 0 = omega arith in
    no_questions (questions_from count bytes at) ∙ ap (λ k. and_then (questions_from k bytes at) (behind_questions [])) n

behind_question : (q : Question) (front : List Question) (r : Asked) → and_then (and_then r (with_question q)) (behind_questions front) ≡ and_then r (behind_questions (front ++ q ∷ []))
behind_question q front (Ok (rest, end)) = λ i. Ok (sym (append_assoc front (q ∷ []) rest) i, end)
behind_question q front (Err e) = refl

pub questions_more : (bytes : List ℕ) (count i place : ℕ) → i < count
    → questions_from (count - i) bytes place ≡ and_then (question_at bytes place) (λ q. and_then (questions_from (count - (i + 1)) bytes q.1) (with_question q.0))
questions_more bytes count i place less =
    let n : count - i ≡ suc (count - (i + 1)) = omega arith in
    ap (λ k. questions_from k bytes place) n

pub questions_on : (bytes : List ℕ) (count at i place : ℕ) (front new : List Question) (q : Question) (next : ℕ) → IsQuestionRow bytes count at i place front → i < count
    → question_at bytes place ≡ Ok (q, next) → new ≡ front ++ q ∷ [] → IsQuestionRow bytes count at (i + 1) next new
questions_on bytes count at i place front new q next row less h e =
    let step = questions_more bytes count i place less ∙ ap (λ x. and_then x (λ r. and_then (questions_from (count - (i + 1)) bytes r.1) (with_question r.0))) h in
    row ∙ (ap (λ x. and_then x (behind_questions front)) step ∙ (behind_question q front (questions_from (count - (i + 1)) bytes next)
    ∙ ap (λ x. and_then (questions_from (count - (i + 1)) bytes next) (behind_questions x)) (sym e)))

pub questions_fail : (bytes : List ℕ) (count at i place : ℕ) (front : List Question) (e : WireError) → IsQuestionRow bytes count at i place front → i < count
    → Fails e (question_at bytes place) → Fails e (questions_from count bytes at)
questions_fail bytes count at i place front e row less h =
    fails_with e (question_at bytes place) (questions_from count bytes at)
    (λ k. row ∙ ap (λ x. and_then x (behind_questions front))
    (questions_more bytes count i place less ∙ ap (λ x. and_then x (λ r. and_then (questions_from (count - (i + 1)) bytes r.1) (with_question r.0))) k)) h

pub questions_end : (bytes : List ℕ) (count at i place : ℕ) (front : List Question) → IsQuestionRow bytes count at i place front → count ≤ i
    → questions_from count bytes at ≡ Ok (front, place)
questions_end bytes count at i place front row past =
    let n : count - i ≡ 0 = omega arith in
    row ∙ (ap (λ k. and_then (questions_from k bytes place) (behind_questions front)) n ∙ (λ j. Ok (append-nil front j, place)))
