-- A message read section by section.
use Rattle.std.proofs.Common.{◌≡◌, ℕ, ◌<◌, ◌≤◌, Bool, true, false, List, length, Result, Ok, Err, sym, ◌∙◌, ap, arith}
use Rattle.std.specs.Prelude.{nat_lt, nat_eq, if◌then◌else◌}
use Rattle.std.proofs.lemmas.Bool.Decides.{nat_tests}
use Rattle.rdata.specs.Records.{Record}
use Rattle.message_grammar.specs.Messages.{Header, Question, Message}
use Rattle.wire.specs.declared.error.WireError.{WireError}
use Rattle.wire.specs.declared.error.WireError.TheVariants.{Short, TrailingBytes}
use Rattle.wire.specs.Numbers.{two_at}
use Rattle.wire.specs.Heads.{header_of}
use Rattle.wire.specs.Results.{Fails, and_then}
use Rattle.wire.specs.Entries.{section_from, questions_from, message_first, message_second, message_third, message_whole, message_of}
use Rattle.wire.proofs.Walks.{fails_with}

pub record First (bytes : List ℕ) (questions : List Question) (at : ℕ) : Type 0 where
  pub so_far : message_of bytes ≡ message_first bytes (questions, at)

pub record Second (bytes : List ℕ) (questions : List Question) (answer : List Record) (at : ℕ) : Type 0 where
  pub so_far : message_of bytes ≡ message_second bytes questions (answer, at)

pub record Third (bytes : List ℕ) (questions : List Question) (answer authority : List Record) (at : ℕ) : Type 0 where
  pub so_far : message_of bytes ≡ message_third bytes questions answer (authority, at)

pub no_header : (bytes : List ℕ) → length bytes < 12 → message_of bytes ≡ Err Short
unfolding message_of
no_header bytes h =
    let b : nat_lt (length bytes) 12 ≡ true = grind (arith, nat_tests) in
    ap (λ c. if c then Err Short else and_then (questions_from (two_at bytes 4) bytes 12) (message_first bytes)) b

pub opened : (bytes : List ℕ) → 12 ≤ length bytes → message_of bytes ≡ and_then (questions_from (two_at bytes 4) bytes 12) (message_first bytes)
unfolding message_of
opened bytes h =
    let b : nat_lt (length bytes) 12 ≡ false = grind (arith, nat_tests) in
    ap (λ c. if c then Err Short else and_then (questions_from (two_at bytes 4) bytes 12) (message_first bytes)) b

pub first : (bytes : List ℕ) (n at : ℕ) (questions : List Question) → 12 ≤ length bytes → n ≡ two_at bytes 4 → questions_from n bytes 12 ≡ Ok (questions, at)
    → First bytes questions at
first bytes n at questions h e k = record {
  so_far = opened bytes h ∙ (ap (λ x. and_then (questions_from x bytes 12) (message_first bytes)) (sym e) ∙ ap (λ x. and_then x (message_first bytes)) k);
}

pub second : (bytes : List ℕ) (n at next : ℕ) (questions : List Question) (answer : List Record) → First bytes questions at → n ≡ two_at bytes 6
    → section_from n bytes at ≡ Ok (answer, next) → Second bytes questions answer next
second bytes n at next questions answer f e k = record {
  so_far = f.so_far ∙ (ap (λ x. and_then (section_from x bytes at) (message_second bytes questions)) (sym e) ∙ ap (λ x. and_then x (message_second bytes questions)) k);
}

pub third : (bytes : List ℕ) (n at next : ℕ) (questions : List Question) (answer authority : List Record) → Second bytes questions answer at → n ≡ two_at bytes 8
    → section_from n bytes at ≡ Ok (authority, next) → Third bytes questions answer authority next
third bytes n at next questions answer authority f e k = record {
  so_far = f.so_far ∙ (ap (λ x. and_then (section_from x bytes at) (message_third bytes questions answer)) (sym e) ∙ ap (λ x. and_then x (message_third bytes questions answer)) k);
}

pub questions_fail : (bytes : List ℕ) (n : ℕ) (e : WireError) → 12 ≤ length bytes → n ≡ two_at bytes 4 → Fails e (questions_from n bytes 12) → Fails e (message_of bytes)
questions_fail bytes n e long is h =
    fails_with e (questions_from n bytes 12) (message_of bytes)
    (λ k. opened bytes long ∙ (ap (λ x. and_then (questions_from x bytes 12) (message_first bytes)) (sym is) ∙ ap (λ x. and_then x (message_first bytes)) k)) h

pub answer_fails : (bytes : List ℕ) (n at : ℕ) (questions : List Question) (e : WireError) → First bytes questions at → n ≡ two_at bytes 6
    → Fails e (section_from n bytes at) → Fails e (message_of bytes)
answer_fails bytes n at questions e f is h =
    fails_with e (section_from n bytes at) (message_of bytes)
    (λ k. f.so_far ∙ (ap (λ x. and_then (section_from x bytes at) (message_second bytes questions)) (sym is) ∙ ap (λ x. and_then x (message_second bytes questions)) k)) h

pub trailing : (bytes : List ℕ) (n at next : ℕ) (questions : List Question) (answer authority additional : List Record) → Third bytes questions answer authority at → n ≡ two_at bytes 10
    → section_from n bytes at ≡ Ok (additional, next) → (next ≡ length bytes → ⊥) → message_of bytes ≡ Err TrailingBytes
trailing bytes n at next questions answer authority additional f e k other =
    let b : nat_eq next (length bytes) ≡ false = grind (arith, nat_tests) in
    f.so_far ∙ (ap (λ x. and_then (section_from x bytes at) (message_whole bytes questions answer authority)) (sym e)
    ∙ (ap (λ x. and_then x (message_whole bytes questions answer authority)) k
    ∙ ap (λ c. if c then Ok (record { header = header_of bytes; questions = questions; answer = answer; authority = authority; additional = additional }) else Err TrailingBytes) b))

pub all_read : (bytes : List ℕ) (header : Header) (n at next : ℕ) (questions : List Question) (answer authority additional : List Record) → Third bytes questions answer authority at
    → n ≡ two_at bytes 10 → section_from n bytes at ≡ Ok (additional, next) → next ≡ length bytes → header ≡ header_of bytes
    → message_of bytes ≡ Ok (record { header = header; questions = questions; answer = answer; authority = authority; additional = additional })
all_read bytes header n at next questions answer authority additional f e k same h =
    let b : nat_eq next (length bytes) ≡ true = grind (arith, nat_tests) in
    f.so_far ∙ (ap (λ x. and_then (section_from x bytes at) (message_whole bytes questions answer authority)) (sym e)
    ∙ (ap (λ x. and_then x (message_whole bytes questions answer authority)) k
    ∙ (ap (λ c. if c then Ok (record { header = header_of bytes; questions = questions; answer = answer; authority = authority; additional = additional }) else Err TrailingBytes) b
    ∙ (λ i. Ok (record { header = sym h i; questions = questions; answer = answer; authority = authority; additional = additional })))))

-- ---- the last two sections

pub authority_fails : (bytes : List ℕ) (n at : ℕ) (questions : List Question) (answer : List Record) (e : WireError) → n ≡ two_at bytes 8 → Fails e (section_from n bytes at)
    → Fails e (message_second bytes questions (answer, at))
authority_fails bytes n at questions answer e is h =
    fails_with e (section_from n bytes at) (message_second bytes questions (answer, at))
    (λ k. ap (λ x. and_then (section_from x bytes at) (message_third bytes questions answer)) (sym is) ∙ ap (λ x. and_then x (message_third bytes questions answer)) k) h

behind_two : (bytes : List ℕ) (n m at next : ℕ) (questions : List Question) (answer authority : List Record) → n ≡ two_at bytes 8 → section_from n bytes at ≡ Ok (authority, next)
    → m ≡ two_at bytes 10
    → message_second bytes questions (answer, at) ≡ and_then (section_from m bytes next) (message_whole bytes questions answer authority)
behind_two bytes n m at next questions answer authority e k last =
    ap (λ x. and_then (section_from x bytes at) (message_third bytes questions answer)) (sym e)
    ∙ (ap (λ x. and_then x (message_third bytes questions answer)) k
    ∙ ap (λ x. and_then (section_from x bytes next) (message_whole bytes questions answer authority)) (sym last))

pub additional_fails : (bytes : List ℕ) (n m at next : ℕ) (questions : List Question) (answer authority : List Record) (e : WireError) → n ≡ two_at bytes 8
    → section_from n bytes at ≡ Ok (authority, next) → m ≡ two_at bytes 10 → Fails e (section_from m bytes next) → Fails e (message_second bytes questions (answer, at))
additional_fails bytes n m at next questions answer authority e is read last h =
    fails_with e (section_from m bytes next) (message_second bytes questions (answer, at))
    (λ k. behind_two bytes n m at next questions answer authority is read last ∙ ap (λ x. and_then x (message_whole bytes questions answer authority)) k) h

-- The message, if it ends where its bytes end.
whole_if : List ℕ → List Question → List Record → List Record → List Record → Bool → Result Message WireError
whole_if bytes questions answer authority additional c =
    if c then Ok (record { header = header_of bytes; questions = questions; answer = answer; authority = authority; additional = additional }) else Err TrailingBytes

pub last_trailing : (bytes : List ℕ) (n m at next end : ℕ) (questions : List Question) (answer authority additional : List Record) → n ≡ two_at bytes 8
    → section_from n bytes at ≡ Ok (authority, next) → m ≡ two_at bytes 10 → section_from m bytes next ≡ Ok (additional, end) → (end ≡ length bytes → ⊥)
    → message_second bytes questions (answer, at) ≡ Err TrailingBytes
unfolding whole_if
last_trailing bytes n m at next end questions answer authority additional is read last k other =
    let b : nat_eq end (length bytes) ≡ false = grind (arith, nat_tests) in
    behind_two bytes n m at next questions answer authority is read last
    ∙ (ap (λ x. and_then x (message_whole bytes questions answer authority)) k ∙ ap (whole_if bytes questions answer authority additional) b)

pub last_read : (bytes : List ℕ) (n m at next end : ℕ) (questions : List Question) (answer authority additional : List Record) → n ≡ two_at bytes 8
    → section_from n bytes at ≡ Ok (authority, next) → m ≡ two_at bytes 10 → section_from m bytes next ≡ Ok (additional, end) → end ≡ length bytes
    → message_second bytes questions (answer, at)
    ≡ Ok (record { header = header_of bytes; questions = questions; answer = answer; authority = authority; additional = additional })
unfolding whole_if
last_read bytes n m at next end questions answer authority additional is read last k same =
    let b : nat_eq end (length bytes) ≡ true = grind (arith, nat_tests) in
    behind_two bytes n m at next questions answer authority is read last
    ∙ (ap (λ x. and_then x (message_whole bytes questions answer authority)) k ∙ ap (whole_if bytes questions answer authority additional) b)

-- ---- the whole message

pub last_fail : (bytes : List ℕ) (questions : List Question) (answer : List Record) (at : ℕ) (e : WireError) → Second bytes questions answer at
    → Fails e (message_second bytes questions (answer, at)) → Fails e (message_of bytes)
last_fail bytes questions answer at e f h =
    fails_with e (message_second bytes questions (answer, at)) (message_of bytes) (λ k. f.so_far ∙ k) h

pub whole_read : (bytes : List ℕ) (header : Header) (questions : List Question) (answer authority additional : List Record) (at : ℕ) → Second bytes questions answer at
    → message_second bytes questions (answer, at) ≡ Ok (record { header = header_of bytes; questions = questions; answer = answer; authority = authority; additional = additional })
    → header ≡ header_of bytes
    → message_of bytes ≡ Ok (record { header = header; questions = questions; answer = answer; authority = authority; additional = additional })
whole_read bytes header questions answer authority additional at f k h =
    f.so_far ∙ (k ∙ (λ i. Ok (record { header = sym h i; questions = questions; answer = answer; authority = authority; additional = additional })))
