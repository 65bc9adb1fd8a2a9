-- The ends of what readers give, found without what they give.
use Rattle.std.proofs.Common.{◌≡◌, ℕ, ◌+◌, ◌-◌, ◌<◌, ◌≤◌, List, Option, Some, None, Result, Ok, Err, refl, sym, ◌∙◌, ap, arith}
use Rattle.rdata.specs.Records.{Record}
use Rattle.rdata.specs.declared.rtype.RType.TheVariants as served
use Rattle.message_grammar.specs.Messages.{Question}
use Rattle.wire.specs.declared.error.WireError.{WireError}
use Rattle.wire.specs.declared.parts.Faults.{Faults}
use Rattle.wire.specs.Parts.{spelt_before, in_lower_case, name_at, full_name_at}
use Rattle.wire.specs.Spellings.{spelt_by}
use Rattle.wire.specs.Results.{and_then, end_of}
use Rattle.wire.specs.Values.{string_at, with_string, strings_from, as_txt, txt_behind, form_at}
use Rattle.wire.specs.Entries.{entry_at, with_kept, section_from, question_at, with_question, questions_from}
use Rattle.wire.proofs.Walks.{Spelt}
use Rattle.wire.proofs.Rows.{Strings, Section, Asked, strings_more, strings_none, section_more, questions_more}

-- A reader whose end is known gives something; one that refuses so gives nothing.
pub ended : {X : Type 0} (r : Result (X × ℕ) WireError) (end : ℕ) → Ok end ≡ end_of r → (x : X) × (r ≡ Ok (x, end))
ended (Ok (x, past)) end h = let same : end ≡ past = cc in (x, λ i. Ok (x, sym same i))
ended (Err e) end h = absurd (cc)

pub not_ended : {X : Type 0} (r : Result (X × ℕ) WireError) (e : WireError) → Err e ≡ end_of r → r ≡ Err e
not_ended (Ok (x, past)) e h = absurd (cc)
not_ended (Err d) e h = let same : e ≡ d = cc in ap (λ x. Err x) (sym same)

-- ---- names

end_by : (letters : List ℕ) (end : Result ℕ WireError) (r : Spelt) → spelt_by letters end ≡ r → end ≡ end_of (and_then r in_lower_case)
end_by letters (Ok past) r h = ap (λ x. end_of (and_then x in_lower_case)) h
end_by letters (Err e) r h = ap (λ x. end_of (and_then x in_lower_case)) h

-- What the walk over a name's letters tells of its end.
pub name_end_by : (bytes : List ℕ) (faults : Faults) (limit at : ℕ) (letters : List ℕ) (end : Result ℕ WireError) → spelt_by letters end ≡ spelt_before bytes faults limit at at
    → end ≡ end_of (name_at bytes faults limit at)
unfolding name_at
name_end_by bytes faults limit at letters end h = end_by letters end (spelt_before bytes faults limit at at) h

pub full_end_by : (bytes : List ℕ) (faults : Faults) (limit at : ℕ) (letters : List ℕ) (end : Result ℕ WireError) → spelt_by letters end ≡ spelt_before bytes faults limit 0 at
    → end ≡ end_of (full_name_at bytes faults limit at)
unfolding full_name_at
full_end_by bytes faults limit at letters end h = end_by letters end (spelt_before bytes faults limit 0 at) h

-- ---- character-strings

pub record StringEnds (bytes : List ℕ) (at end place : ℕ) : Type 0 where
  pub fuel : ℕ
  pub enough : end - place ≤ fuel
  pub so_far : end_of (form_at served.Txt bytes at end) ≡ end_of (and_then (strings_from fuel bytes place end) (as_txt end))

end_behind : (string : List ℕ) (end : ℕ) (r : Strings) → end_of (and_then (and_then r (with_string string)) (as_txt end)) ≡ end_of (and_then r (as_txt end))
end_behind string end (Ok rest) = refl
end_behind string end (Err e) = refl

pub texts_begin : (bytes : List ℕ) (at end next : ℕ) → Ok next ≡ end_of (string_at bytes at end) → StringEnds bytes at end next
texts_begin bytes at end next h =
    let (string, is) = ended (string_at bytes at end) next h in
    record {
      fuel = end - next;
      enough = omega arith;
      so_far = ap (λ x. end_of (and_then (and_then x (txt_behind bytes end)) (as_txt end))) is ∙ end_behind string end (strings_from (end - next) bytes next end);
    }

pub texts_begin_fails : (bytes : List ℕ) (at end : ℕ) (e : WireError) → Err e ≡ end_of (string_at bytes at end) → Err e ≡ end_of (form_at served.Txt bytes at end)
texts_begin_fails bytes at end e h = sym (ap (λ x. end_of (and_then (and_then x (txt_behind bytes end)) (as_txt end))) (not_ended (string_at bytes at end) e h))

pub texts_on : (bytes : List ℕ) (at end place next : ℕ) → StringEnds bytes at end place → place < end → Ok next ≡ end_of (string_at bytes place end) → place < next
    → StringEnds bytes at end next
texts_on bytes at end place next row less h later =
    let (string, is) = ended (string_at bytes place end) next h in
    let enough = row.enough in
    let found : strings_from row.fuel bytes place end ≡ and_then (strings_from (row.fuel - 1) bytes next end) (with_string string) =
    strings_more row.fuel bytes place end enough less ∙ ap (λ x. and_then x (λ s. and_then (strings_from (row.fuel - 1) bytes s.1 end) (with_string s.0))) is in
    record {
      fuel = row.fuel - 1;
      enough = omega arith;
      so_far = row.so_far ∙ (ap (λ x. end_of (and_then x (as_txt end))) found ∙ end_behind string end (strings_from (row.fuel - 1) bytes next end));
    }

pub texts_fail : (bytes : List ℕ) (at end place : ℕ) (e : WireError) → StringEnds bytes at end place → place < end → Err e ≡ end_of (string_at bytes place end)
    → Err e ≡ end_of (form_at served.Txt bytes at end)
texts_fail bytes at end place e row less h =
    let found : strings_from row.fuel bytes place end ≡ Err e =
    strings_more row.fuel bytes place end row.enough less
    ∙ ap (λ x. and_then x (λ s. and_then (strings_from (row.fuel - 1) bytes s.1 end) (with_string s.0))) (not_ended (string_at bytes place end) e h) in
    sym (row.so_far ∙ ap (λ x. end_of (and_then x (as_txt end))) found)

pub texts_done : (bytes : List ℕ) (at end place : ℕ) → StringEnds bytes at end place → end ≤ place → Ok end ≡ end_of (form_at served.Txt bytes at end)
texts_done bytes at end place row past = sym (row.so_far ∙ ap (λ x. end_of (and_then x (as_txt end))) (strings_none row.fuel bytes place end past))

-- ---- records

abbrev pub IsEndRow : List ℕ → ℕ → ℕ → ℕ → ℕ → Type 0
IsEndRow bytes count at i place = end_of (section_from count bytes at) ≡ end_of (section_from (count - i) bytes place)

pub records_begin : (bytes : List ℕ) (count at : ℕ) → IsEndRow bytes count at 0 at
records_begin bytes count at = let n : count ≡ count - 0 = omega arith in ap (λ k. end_of (section_from k bytes at)) n

end_kept : (found : Option Record) (r : Section) → end_of (and_then r (with_kept found)) ≡ end_of r
end_kept None (Ok (rest, end)) = refl
end_kept (Some x) (Ok (rest, end)) = refl
end_kept None (Err e) = refl
end_kept (Some x) (Err e) = refl

pub records_on : (bytes : List ℕ) (count at i place next : ℕ) → IsEndRow bytes count at i place → i < count → Ok next ≡ end_of (entry_at bytes place)
    → IsEndRow bytes count at (i + 1) next
records_on bytes count at i place next row less h =
    let (found, is) = ended (entry_at bytes place) next h in
    let step = section_more bytes count i place less ∙ ap (λ x. and_then x (λ r. and_then (section_from (count - (i + 1)) bytes r.1) (with_kept r.0))) is in
    row ∙ (ap end_of step ∙ end_kept found (section_from (count - (i + 1)) bytes next))

pub records_fail : (bytes : List ℕ) (count at i place : ℕ) (e : WireError) → IsEndRow bytes count at i place → i < count → Err e ≡ end_of (entry_at bytes place)
    → Err e ≡ end_of (section_from count bytes at)
records_fail bytes count at i place e row less h =
    let step = section_more bytes count i place less
    ∙ ap (λ x. and_then x (λ r. and_then (section_from (count - (i + 1)) bytes r.1) (with_kept r.0))) (not_ended (entry_at bytes place) e h) in
    sym (row ∙ ap end_of step)

pub records_done : (bytes : List ℕ) (count at i place : ℕ) → IsEndRow bytes count at i place → count ≤ i → Ok place ≡ end_of (section_from count bytes at)
records_done bytes count at i place row past = let n : count - i ≡ 0 = omega arith in sym (row ∙ ap (λ k. end_of (section_from k bytes place)) n)

-- ---- questions

abbrev pub IsAskedRow : List ℕ → ℕ → ℕ → ℕ → ℕ → Type 0
IsAskedRow bytes count at i place = end_of (questions_from count bytes at) ≡ end_of (questions_from (count - i) bytes place)

pub asked_begin : (bytes : List ℕ) (count at : ℕ) → IsAskedRow bytes count at 0 at
asked_begin bytes count at = let n : count ≡ count - 0 = omega arith in ap (λ k. end_of (questions_from k bytes at)) n

end_asked : (q : Question) (r : Asked) → end_of (and_then r (with_question q)) ≡ end_of r
end_asked q (Ok (rest, end)) = refl
end_asked q (Err e) = refl

pub asked_on : (bytes : List ℕ) (count at i place next : ℕ) → IsAskedRow bytes count at i place → i < count → Ok next ≡ end_of (question_at bytes place)
    → IsAskedRow bytes count at (i + 1) next
asked_on bytes count at i place next row less h =
    let (found, is) = ended (question_at bytes place) next h in
    let step = questions_more bytes count i place less ∙ ap (λ x. and_then x (λ q. and_then (questions_from (count - (i + 1)) bytes q.1) (with_question q.0))) is in
    row ∙ (ap end_of step ∙ end_asked found (questions_from (count - (i + 1)) bytes next))

pub asked_fail : (bytes : List ℕ) (count at i place : ℕ) (e : WireError) → IsAskedRow bytes count at i place → i < count → Err e ≡ end_of (question_at bytes place)
    → Err e ≡ end_of (questions_from count bytes at)
asked_fail bytes count at i place e row less h =
    let step = questions_more bytes count i place less
    ∙ ap (λ x. and_then x (λ q. and_then (questions_from (count - (i + 1)) bytes q.1) (with_question q.0))) (not_ended (question_at bytes place) e h) in
    sym (row ∙ ap end_of step)

pub asked_done : (bytes : List ℕ) (count at i place : ℕ) → IsAskedRow bytes count at i place → count ≤ i → Ok place ≡ end_of (questions_from count bytes at)
asked_done bytes count at i place row past = let n : count - i ≡ 0 = omega arith in sym (row ∙ ap (λ k. end_of (questions_from k bytes place)) n)
