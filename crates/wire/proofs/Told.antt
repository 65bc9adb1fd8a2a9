-- What bytes give is never refused when out of memory: that befalls only the code that reads them.
use Rattle.std.proofs.Common.{◌≡◌, ◌≢◌, ℕ, zero, suc, ◌+◌, ◌-◌, ◌*◌, Bool, true, false, List, [], length, Option, Some, None, Result, Ok, Err, IfErr, IsErrAnd, sym, ◌∙◌, ◌⊎◌, inl, inr}
use Rattle.std.specs.Prelude.{nat_eq, nat_le, nat_lt, if◌then◌else◌, slice_index, slice_range}
use Rattle.rdata.specs.declared.rtype.RType.{RType}
use Rattle.rdata.specs.declared.rtype.RType.TheVariants as served
use Rattle.message_grammar.specs.Messages.{Message, IsMessage, served_type}
use Rattle.rdata.specs.Records.{Record}
use Rattle.wire.specs.declared.error.WireError.{WireError}
use Rattle.wire.specs.declared.error.WireError.TheVariants.{Short, BadRdataLength, TrailingBytes, Memory}
use Rattle.wire.specs.declared.parts.Part.{Part}
use Rattle.wire.specs.declared.parts.Part.TheVariants.{End, Label, Pointer}
use Rattle.wire.specs.declared.parts.Faults.{Faults}
use Rattle.wire.specs.Numbers.{two_at, four_at}
use Rattle.wire.specs.Parts.{message_faults, rdata_faults, part_by, part_at, behind_label, ends_at, followed, spelt_from, spelt_before, in_lower_case, name_at, full_name_at}
use Rattle.wire.specs.Values.{bytes_within, two_within, name_within, as_ipv4, as_ipv6, as_ns, as_cname, as_ptr, as_mx, mx_behind, soa_numbers, soa_behind, as_srv, string_at, with_string, strings_from, as_txt, txt_behind, texts_at, form_at, value_at, whole}
use Rattle.wire.specs.Entries.{kept_value, entry_kept, entry_sized, entry_behind, entry_at, with_kept, section_from, question_behind, question_at, with_question, questions_from, message_whole, message_third, message_second, message_first, message_of}
use Rattle.wire.specs.Results.{and_then}

abbrev pub IsTold : {X : Type 0} → Result X WireError → Type 0
IsTold r = IfErr r (λ e. e ≢ Memory)

-- ---- one reader behind another, and one of two

and_told : {X Y : Type 0} (r : Result X WireError) (next : X → Result Y WireError) → IsTold r → ((x : X) → IsTold (next x)) → IsTold (and_then r next)
and_told (Ok x) next h k = k x
and_told (Err e) next h k = h

if_told : {X : Type 0} (b : Bool) (x y : Result X WireError) → IsTold x → IsTold y → IsTold (if b then x else y)
if_told true x y h k = h
if_told false x y h k = k

-- ---- names

pub record AreTold (faults : Faults) : Type 0 where
  pub border : faults.border ≢ Memory
  pub bad_label : faults.bad_label ≢ Memory
  pub not_earlier : faults.not_earlier ≢ Memory
  pub too_long : faults.too_long ≢ Memory

short : Short ≢ Memory
short h = absurd (cc)

length_fault : BadRdataLength ≢ Memory
length_fault h = absurd (cc)

in_message : AreTold message_faults
in_message = record {
  border = short;
  bad_label = λ h. absurd (cc);
  not_earlier = λ h. absurd (cc);
  too_long = λ h. absurd (cc);
}

in_rdata : AreTold rdata_faults
in_rdata = record {
  border = length_fault;
  bad_label = λ h. absurd (cc);
  not_earlier = λ h. absurd (cc);
  too_long = λ h. absurd (cc);
}

part_told : (bytes : List ℕ) (limit : ℕ) (border bad_label : WireError) (at : ℕ) → border ≢ Memory → bad_label ≢ Memory → IsTold (part_at bytes limit border bad_label at)
part_told bytes limit border bad_label at h k =
    let byte = slice_index bytes at in
    let pointer : Result Part WireError = Ok (Pointer ((byte - 192) * 256 + slice_index bytes (at + 1))) in
    if_told (nat_le limit at) (Err border) (part_by bytes limit border bad_label at byte) h
    (if_told (nat_eq byte 0) (Ok End) _ tt
    (if_told (nat_lt byte 64) (Ok (Label byte)) _ tt
    (if_told (nat_lt byte 192) (Err bad_label) _ k
    (if_told (nat_le limit (at + 1)) (Err border) pointer h tt))))

module _ (bytes : List ℕ) (faults : Faults) (told : AreTold faults) where
  followed_told : (fuel limit : ℕ) (border : WireError) (start at room : ℕ) (part : Part) → border ≢ Memory
      → ((limit : ℕ) (border : WireError) (start at room : ℕ) → border ≢ Memory → IsTold (spelt_from fuel bytes faults limit border start at room))
      → IsTold (followed (spelt_from fuel bytes faults) bytes faults limit border start at room part)
  followed_told fuel limit border start at room End h k = tt
  followed_told fuel limit border start at room (Label size) h k =
      let label = slice_range bytes (at + 1) (at + 1 + size) in
      if_told (nat_lt room (size + 2)) (Err faults.too_long) _ told.too_long
      (if_told (nat_lt limit (at + 1 + size)) (Err border) _ h
      (and_told (spelt_from fuel bytes faults limit border start (at + 1 + size) (room - (size + 1))) (behind_label label)
      (k limit border start (at + 1 + size) (room - (size + 1)) h) (λ x. tt)))
  followed_told fuel limit border start at room (Pointer target) h k =
      if_told (nat_lt target start) _ (Err faults.not_earlier)
      (and_told (spelt_from fuel bytes faults (length bytes) Short target target room) (ends_at (at + 2)) (k (length bytes) Short target target room short) (λ x. tt))
      told.not_earlier

  spelt_told : (fuel limit : ℕ) (border : WireError) (start at room : ℕ) → border ≢ Memory → IsTold (spelt_from fuel bytes faults limit border start at room)
  spelt_told zero limit border start at room h = h
  spelt_told (suc fuel) limit border start at room h =
      and_told (part_at bytes limit border faults.bad_label at) (followed (spelt_from fuel bytes faults) bytes faults limit border start at room)
      (part_told bytes limit border faults.bad_label at h told.bad_label)
      (λ part. followed_told fuel limit border start at room part h (spelt_told fuel))

  before_told : (limit start at : ℕ) → IsTold (spelt_before bytes faults limit start at)
  unfolding spelt_before
  before_told limit start at = spelt_told (start + 256) limit faults.border start at 255 told.border

  name_told : (limit at : ℕ) → IsTold (name_at bytes faults limit at)
  unfolding name_at
  name_told limit at = and_told (spelt_before bytes faults limit at at) in_lower_case (before_told limit at at) (λ x. tt)

  full_told : (limit at : ℕ) → IsTold (full_name_at bytes faults limit at)
  unfolding full_name_at
  full_told limit at = and_told (spelt_before bytes faults limit 0 at) in_lower_case (before_told limit 0 at) (λ x. tt)

-- ---- RDATA

module _ (bytes : List ℕ) where
  string_told : (at end : ℕ) → IsTold (string_at bytes at end)
  string_told at end =
      if_told (nat_le end at) (Err BadRdataLength) _ length_fault
      (if_told (nat_lt end (at + 1 + slice_index bytes at)) (Err BadRdataLength) _ length_fault tt)

  strings_told : (fuel at end : ℕ) → IsTold (strings_from fuel bytes at end)
  strings_told zero at end = tt
  strings_told (suc fuel) at end =
      if_told (nat_lt at end) _ (Ok [])
      (and_told (string_at bytes at end) (λ s. and_then (strings_from fuel bytes s.1 end) (with_string s.0)) (string_told at end)
      (λ s. and_told (strings_from fuel bytes s.1 end) (with_string s.0) (strings_told fuel s.1 end) (λ x. tt)))
      tt

  texts_told : (at end : ℕ) → IsTold (texts_at bytes at end)
  texts_told at end =
      and_told (string_at bytes at end) (txt_behind bytes end) (string_told at end)
      (λ s. and_told (strings_from (end - s.1) bytes s.1 end) (with_string s.0) (strings_told (end - s.1) s.1 end) (λ x. tt))

  within_told : (at end : ℕ) → IsTold (name_within bytes at end)
  within_told at end = name_told bytes rdata_faults in_rdata end at

  form_told : (kind : RType) (at end : ℕ) → IsTold (form_at kind bytes at end)
  form_told served.A at end = and_told (bytes_within 4 bytes at end) as_ipv4 (if_told (nat_lt end (at + 4)) _ _ length_fault tt) (λ x. tt)
  form_told served.Ns at end = and_told (name_within bytes at end) as_ns (within_told at end) (λ x. tt)
  form_told served.Cname at end = and_told (name_within bytes at end) as_cname (within_told at end) (λ x. tt)
  form_told served.Soa at end =
      and_told (name_within bytes at end) (soa_behind bytes end) (within_told at end)
      (λ x. and_told (name_within bytes x.1 end) (soa_numbers bytes end x.0) (within_told x.1 end)
      (λ y. if_told (nat_lt end (y.1 + 20)) (Err BadRdataLength) _ length_fault tt))
  form_told served.Ptr at end = and_told (name_within bytes at end) as_ptr (within_told at end) (λ x. tt)
  form_told served.Mx at end =
      and_told (two_within bytes at end) (mx_behind bytes end) (if_told (nat_lt end (at + 2)) _ _ length_fault tt)
      (λ x. and_told (name_within bytes x.1 end) (as_mx x.0) (within_told x.1 end) (λ y. tt))
  form_told served.Txt at end = and_told (texts_at bytes at end) (as_txt end) (texts_told at end) (λ x. tt)
  form_told served.Aaaa at end = and_told (bytes_within 16 bytes at end) as_ipv6 (if_told (nat_lt end (at + 16)) _ _ length_fault tt) (λ x. tt)
  form_told served.Srv at end =
      if_told (nat_lt end (at + 6)) (Err BadRdataLength) _ length_fault
      (and_told (full_name_at bytes rdata_faults end (at + 6)) (as_srv (two_at bytes at) (two_at bytes (at + 2)) (two_at bytes (at + 4)))
      (full_told bytes rdata_faults in_rdata end (at + 6)) (λ x. tt))

  value_told : (kind : RType) (at end : ℕ) → IsTold (value_at kind bytes at end)
  unfolding value_at
  value_told kind at end =
      and_told (form_at kind bytes at end) (whole end) (form_told kind at end) (λ x. if_told (nat_eq x.1 end) (Ok x.0) (Err BadRdataLength) tt length_fault)

  -- ---- records and questions

  kept_told : (o : Option RType) (owner : List (List ℕ)) (ttl at end : ℕ) → IsTold (entry_kept o bytes owner ttl at end)
  kept_told None owner ttl at end = tt
  kept_told (Some kind) owner ttl at end = and_told (value_at kind bytes at end) (kept_value owner ttl end) (value_told kind at end) (λ x. tt)

  entry_told : (at : ℕ) → IsTold (entry_at bytes at)
  unfolding entry_at
  entry_told at =
      and_told (name_at bytes message_faults (length bytes) at) (entry_behind bytes) (name_told bytes message_faults in_message (length bytes) at)
      (λ x. if_told (nat_lt (length bytes) (x.1 + 10)) (Err Short) (entry_sized bytes x.0 x.1) short
      (if_told (nat_lt (length bytes) (x.1 + 10 + two_at bytes (x.1 + 8))) (Err Short) _ short
      (kept_told (served_type (two_at bytes x.1) (two_at bytes (x.1 + 2))) x.0 (four_at bytes (x.1 + 4)) (x.1 + 10) (x.1 + 10 + two_at bytes (x.1 + 8)))))

  with_kept_told : (found : Option Record) (x : List Record × ℕ) → IsTold (with_kept found x)
  with_kept_told None x = tt
  with_kept_told (Some r) x = tt

  section_told : (count at : ℕ) → IsTold (section_from count bytes at)
  section_told zero at = tt
  section_told (suc count) at =
      and_told (entry_at bytes at) (λ r. and_then (section_from count bytes r.1) (with_kept r.0)) (entry_told at)
      (λ r. and_told (section_from count bytes r.1) (with_kept r.0) (section_told count r.1) (with_kept_told r.0))

  question_told : (at : ℕ) → IsTold (question_at bytes at)
  unfolding question_at
  question_told at =
      and_told (name_at bytes message_faults (length bytes) at) (question_behind bytes) (name_told bytes message_faults in_message (length bytes) at)
      (λ x. if_told (nat_lt (length bytes) (x.1 + 4)) (Err Short) _ short tt)

  questions_told : (count at : ℕ) → IsTold (questions_from count bytes at)
  questions_told zero at = tt
  questions_told (suc count) at =
      and_told (question_at bytes at) (λ q. and_then (questions_from count bytes q.1) (with_question q.0)) (question_told at)
      (λ q. and_told (questions_from count bytes q.1) (with_question q.0) (questions_told count q.1) (λ x. tt))

  -- ---- messages

  message_told : IsTold (message_of bytes)
  unfolding message_of
  message_told =
      if_told (nat_lt (length bytes) 12) (Err Short) _ short
      (and_told (questions_from (two_at bytes 4) bytes 12) (message_first bytes) (questions_told (two_at bytes 4) 12)
      (λ q. and_told (section_from (two_at bytes 6) bytes q.1) (message_second bytes q.0) (section_told (two_at bytes 6) q.1)
      (λ a. and_told (section_from (two_at bytes 8) bytes a.1) (message_third bytes q.0 a.0) (section_told (two_at bytes 8) a.1)
      (λ b. and_told (section_from (two_at bytes 10) bytes b.1) (message_whole bytes q.0 a.0 b.0) (section_told (two_at bytes 10) b.1)
      (λ c. if_told (nat_eq c.1 (length bytes)) _ (Err TrailingBytes) tt (λ h. absurd (cc)))))))

never : (bytes : List ℕ) (e : WireError) (r : Result Message WireError) → IsTold r → r ≡ Err e → e ≢ Memory
never bytes e (Ok m) h is = absurd (cc)
never bytes e (Err d) h is = λ same. h (cc)

pub never_memory : (bytes : List ℕ) (e : WireError) → message_of bytes ≡ Err e → e ≢ Memory
never_memory bytes e h = never bytes e (message_of bytes) (message_told bytes) h

-- What a `?` hands on.
pub handed_told : {X : Type 0} (bytes : List ℕ) (r : Result X WireError) (e : WireError) → IsErrAnd r (λ y. y ≡ e) → message_of bytes ≡ Err e → IfErr r (λ d. d ≢ Memory)
handed_told bytes (Ok x) e h k = tt
handed_told bytes (Err d) e h k = λ same. never_memory bytes e k (sym h ∙ same)

pub short_is_told : Short ≡ Memory → ⊥
short_is_told e = cc

pub rest_is_told : TrailingBytes ≡ Memory → ⊥
rest_is_told e = cc

-- A refusal for another reason than want of memory is one of bytes that are no message.
pub none_by : (bytes : List ℕ) (e : WireError) → e ≢ Memory → (e ≡ Memory) ⊎ ((m : Message) → IsMessage bytes m → ⊥) → (m : Message) → IsMessage bytes m → ⊥
none_by bytes e told (inl same) = absurd (told same)
none_by bytes e told (inr none) = none

pub surely_none : {X : Type 0} (bytes : List ℕ) (r : Result X WireError) → IfErr r (λ e. (e ≡ Memory) ⊎ ((m : Message) → IsMessage bytes m → ⊥)) → IfErr r (λ e. e ≢ Memory)
    → IfErr r (λ e. (m : Message) → IsMessage bytes m → ⊥)
surely_none bytes (Ok x) h told = tt
surely_none bytes (Err e) h told = none_by bytes e told h
