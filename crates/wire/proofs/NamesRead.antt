-- The labels and the name that stand at a place are those that are read there.
use Rattle.std.proofs.Common.{◌≡◌, ℕ, zero, suc, ◌+◌, ◌-◌, ◌*◌, ◌<◌, ◌≤◌, true, false, List, [], ◌∷◌, length, Some, Result, Ok, Err, IfOk, refl, sym, ◌∙◌, ap, subst, arith, length-append}
use Rattle.std.specs.Prelude.{nat_eq, nat_lt, nat_le, slice_get, slice_index, slice_range}
use Rattle.std.proofs.lemmas.Bool.Decides.{nat_tests}
use Rattle.std.proofs.lemmas.Option.{slice_get-get_or, get_or_from_slice_get, slice_get_within}
use Rattle.dname.specs.Labels.{wire, folded_label, folded_labels}
use Rattle.message_grammar.specs.Names.{IsPointerAt, Stands, root_here, label_here, pointer_here, as_written, SpeltAt, NameAt, FullAt}
use Rattle.message_grammar.proofs.Reading.{folds_to, name_one, spelling_of}
use Rattle.message_grammar.proofs.Whole.{wire_folded_long, name_takes, name_spelt, spelling_is_name}
use Rattle.wire.specs.declared.error.WireError.{WireError}
use Rattle.wire.specs.declared.error.WireError.TheVariants.{Short}
use Rattle.wire.specs.declared.parts.Part.{Part}
use Rattle.wire.specs.declared.parts.Part.TheVariants.{End, Label, Pointer}
use Rattle.wire.specs.declared.parts.Faults.{Faults}
use Rattle.wire.specs.Results.{and_then}
use Rattle.wire.specs.Parts.{part_by, part_at, behind_label, ends_at, followed, spelt_from, spelt_before, spelt_at, in_lower_case, name_at, full_name_at}
use Rattle.wire.proofs.Bytes.{AreSmall, test_read, then_read, test_yes, test_no, range_stands, range_takes}

-- ---- a part

-- What a part that was read says of its place.
abbrev pub IsThere : List ℕ → ℕ → ℕ → Part → Type 0
IsThere bytes limit at End = (at < limit) × (slice_get bytes at ≡ Some 0)
IsThere bytes limit at (Label size) = (slice_get bytes at ≡ Some size) × (0 < size) × (size < 64)
IsThere bytes limit at (Pointer target) = (at + 1 < limit) × IsPointerAt bytes at target

pub part_there : (bytes : List ℕ) (limit : ℕ) (border bad : WireError) (at : ℕ) → AreSmall bytes → limit ≤ length bytes
    → IfOk (part_at bytes limit border bad at) (IsThere bytes limit at)
part_there bytes limit border bad at small fits =
    let byte = slice_index bytes at in
    test_read (IsThere bytes limit at) (nat_le limit at) (Err border) (part_by bytes limit border bad at byte) (λ _. tt) (λ inside.
    let within : at < limit = grind (arith, nat_tests) in
    let get : slice_get bytes at ≡ Some byte = slice_get-get_or bytes at 0 (omega arith) in
    let b = small at in
    test_read (IsThere bytes limit at) (nat_eq byte 0) (Ok End) _
    (λ zero_byte. let z : byte ≡ 0 = grind (arith, nat_tests) in (within, get ∙ ap (λ n. Some n) z))
    (λ some. let s : 0 < byte = grind (arith, nat_tests) in
    test_read (IsThere bytes limit at) (nat_lt byte 64) (Ok (Label byte)) _
    (λ few. let f : byte < 64 = grind (arith, nat_tests) in (get, s, f))
    (λ many. test_read (IsThere bytes limit at) (nat_lt byte 192) (Err bad) _ (λ _. tt)
    (λ high. let h : 192 ≤ byte = grind (arith, nat_tests) in
    test_read (IsThere bytes limit at) (nat_le limit (at + 1)) (Err border) (Ok (Pointer ((byte - 192) * 256 + slice_index bytes (at + 1)))) (λ _. tt)
    (λ room. let r : at + 1 < limit = grind (arith, nat_tests) in
    let first : byte ≡ 192 + (byte - 192) = omega arith in (
      r,
      record {
        high = byte - 192;
        low = slice_index bytes (at + 1);
        first = get ∙ ap (λ n. Some n) first;
        second = slice_get-get_or bytes (at + 1) 0 (omega arith);
        fits = omega arith;
        is = omega arith;
      },
    ))))))

-- ---- what was read stands

record Spells (bytes : List ℕ) (limit start at room : ℕ) (found : List (List ℕ) × ℕ) : Type 0 where
  stands : Stands as_written bytes start at found.0 found.1
  short : length (wire found.0) ≤ room
  within : found.1 ≤ limit

abbrev Reading : Type 0
Reading = Result (List (List ℕ) × ℕ) WireError

label_on : (bytes : List ℕ) (limit start at room size : ℕ) (rest : List (List ℕ) × ℕ) → limit ≤ length bytes → slice_get bytes at ≡ Some size → 0 < size → size < 64
    → size + 2 ≤ room → at + 1 + size ≤ limit → Spells bytes limit start (at + 1 + size) (room - (size + 1)) rest
    → Spells bytes limit start at room (slice_range bytes (at + 1) (at + 1 + size) ∷ rest.0, rest.1)
label_on bytes limit start at room size rest fits get one few taken inside h =
    let label = slice_range bytes (at + 1) (at + 1 + size) in
    let text = range_stands bytes (at + 1) size (omega arith) in
    let long : length label ≡ size = text.1 in
    let short = h.short in
    let next : at + 1 + size ≡ at + 1 + length label = omega arith in
    record {
      stands = label_here start at rest.1 label label rest.0 (record {
        head = get ∙ ap (λ n. Some n) (sym long);
        nonempty = omega arith;
        short = omega arith;
        there = omega arith;
        text = text.0.is;
      }) refl (subst (λ (n : ℕ). Stands as_written bytes start n rest.0 rest.1) next h.stands);
      short = omega (arith, length-append label (wire rest.0));
      within = h.within;
    }

followed_stands : (go : ℕ → WireError → ℕ → ℕ → ℕ → Reading) (bytes : List ℕ) (faults : Faults) (limit : ℕ) (border : WireError) (start at room : ℕ) → AreSmall bytes
    → limit ≤ length bytes → 0 < room
    → ((stop : ℕ) (edge : WireError) (first place left : ℕ) → stop ≤ length bytes → 0 < left → IfOk (go stop edge first place left) (Spells bytes stop first place left))
    → (p : Part) → IsThere bytes limit at p → IfOk (followed go bytes faults limit border start at room p) (Spells bytes limit start at room)
followed_stands go bytes faults limit border start at room small fits some goes End (within, zero_byte) =
    record { stands = root_here start at (at + 1) zero_byte refl; short = omega arith; within = omega arith }
followed_stands go bytes faults limit border start at room small fits some goes (Label size) (get, one, few) =
    test_read (Spells bytes limit start at room) (nat_lt room (size + 2)) (Err faults.too_long) _ (λ _. tt)
    (λ long.
    let taken : size + 2 ≤ room = grind (arith, nat_tests) in
    test_read (Spells bytes limit start at room) (nat_lt limit (at + 1 + size)) (Err border) _ (λ _. tt)
    (λ over.
    let inside : at + 1 + size ≤ limit = grind (arith, nat_tests) in
    then_read (Spells bytes limit start (at + 1 + size) (room - (size + 1))) (Spells bytes limit start at room)
    (go limit border start (at + 1 + size) (room - (size + 1))) (behind_label (slice_range bytes (at + 1) (at + 1 + size)))
    (goes limit border start (at + 1 + size) (room - (size + 1)) fits (omega arith))
    (λ rest h. label_on bytes limit start at room size rest fits get one few taken inside h)))
followed_stands go bytes faults limit border start at room small fits some goes (Pointer target) (within, leads) =
    test_read (Spells bytes limit start at room) (nat_lt target start) _ (Err faults.not_earlier)
    (λ less.
    let earlier : target < start = grind (arith, nat_tests) in
    then_read (Spells bytes (length bytes) target target room) (Spells bytes limit start at room) (go (length bytes) Short target target room) (ends_at (at + 2))
    (goes (length bytes) Short target target room (omega arith) some)
    (λ rest h. record { stands = pointer_here start at (at + 2) target rest.1 rest.0 leads earlier h.stands refl; short = h.short; within = omega arith }))
    (λ _. tt)

spells_from : (fuel : ℕ) (bytes : List ℕ) (faults : Faults) (limit : ℕ) (border : WireError) (start at room : ℕ) → AreSmall bytes → limit ≤ length bytes → 0 < room
    → IfOk (spelt_from fuel bytes faults limit border start at room) (Spells bytes limit start at room)
spells_from zero bytes faults limit border start at room small fits some = tt
spells_from (suc fuel) bytes faults limit border start at room small fits some =
    then_read (IsThere bytes limit at) (Spells bytes limit start at room) (part_at bytes limit border faults.bad_label at)
    (followed (spelt_from fuel bytes faults) bytes faults limit border start at room) (part_there bytes limit border faults.bad_label at small fits)
    (followed_stands (spelt_from fuel bytes faults) bytes faults limit border start at room small fits some
    (λ stop edge first place left inside more. spells_from fuel bytes faults stop edge first place left small inside more))

pub spelt_stands : (bytes : List ℕ) (faults : Faults) (limit at : ℕ) → AreSmall bytes → limit ≤ length bytes
    → IfOk (spelt_at bytes faults limit at) (λ x. SpeltAt bytes at x.0 x.1 × (x.1 ≤ limit))
unfolding spelt_before
spelt_stands bytes faults limit at small fits =
    by (spelt_from (at + 256) bytes faults limit faults.border at at 255) (spells_from (at + 256) bytes faults limit faults.border at at 255 small fits (omega arith))
  where
    by : (r : Result (List (List ℕ) × ℕ) WireError) → IfOk r (Spells bytes limit at at 255) → IfOk r (λ x. SpeltAt bytes at x.0 x.1 × (x.1 ≤ limit))
    by (Ok x) h = (record { stands = h.stands; short = h.short }, h.within)
    by (Err e) h = tt

pub name_stands : (bytes : List ℕ) (faults : Faults) (limit at : ℕ) → AreSmall bytes → limit ≤ length bytes
    → IfOk (name_at bytes faults limit at) (λ x. NameAt bytes at x.0 x.1 × (x.1 ≤ limit))
unfolding name_at
name_stands bytes faults limit at small fits =
    then_read (λ x. SpeltAt bytes at x.0 x.1 × (x.1 ≤ limit)) (λ x. NameAt bytes at x.0 x.1 × (x.1 ≤ limit)) (spelt_at bytes faults limit at) in_lower_case
    (spelt_stands bytes faults limit at small fits) (λ x h. (spelling_is_name bytes at x.0 x.1 h.0, h.1))

pub full_stands : (bytes : List ℕ) (faults : Faults) (limit at : ℕ) → AreSmall bytes → limit ≤ length bytes
    → IfOk (full_name_at bytes faults limit at) (λ x. FullAt bytes at x.0 x.1 × (x.1 ≤ limit))
unfolding full_name_at spelt_before
full_stands bytes faults limit at small fits =
    then_read (Spells bytes limit 0 at 255) (λ x. FullAt bytes at x.0 x.1 × (x.1 ≤ limit)) (spelt_from 256 bytes faults limit faults.border 0 at 255) in_lower_case
    (spells_from 256 bytes faults limit faults.border 0 at 255 small fits (omega arith))
    (λ x h.
    let s = h.short in
    (record { stands = folds_to bytes 0 at x.1 x.0 h.stands; short = omega (arith, wire_folded_long x.0) }, h.within))

-- ---- what stands is read

root_part : (bytes : List ℕ) (limit : ℕ) (border bad : WireError) (at : ℕ) → at < limit → slice_get bytes at ≡ Some 0 → part_at bytes limit border bad at ≡ Ok End
root_part bytes limit border bad at within get =
    let inside : nat_le limit at ≡ false = grind (arith, nat_tests) in
    let byte : slice_index bytes at ≡ 0 = get_or_from_slice_get bytes at 0 0 get in
    test_no (nat_le limit at) (Err border) (part_by bytes limit border bad at (slice_index bytes at)) inside ∙ ap (part_by bytes limit border bad at) byte

label_part : (bytes : List ℕ) (limit : ℕ) (border bad : WireError) (at size : ℕ) → at < limit → slice_get bytes at ≡ Some size → 0 < size → size < 64
    → part_at bytes limit border bad at ≡ Ok (Label size)
label_part bytes limit border bad at size within get some few =
    let inside : nat_le limit at ≡ false = grind (arith, nat_tests) in
    let byte : slice_index bytes at ≡ size = get_or_from_slice_get bytes at size 0 get in
    let a : nat_eq size 0 ≡ false = grind (arith, nat_tests) in
    let b : nat_lt size 64 ≡ true = grind (arith, nat_tests) in
    test_no (nat_le limit at) (Err border) (part_by bytes limit border bad at (slice_index bytes at)) inside ∙ (ap (part_by bytes limit border bad at) byte
    ∙ (test_no (nat_eq size 0) (Ok End) _ a ∙ test_yes (nat_lt size 64) (Ok (Label size)) _ b))

pub pointer_part : (bytes : List ℕ) (limit : ℕ) (border bad : WireError) (at target : ℕ) → at + 1 < limit → IsPointerAt bytes at target
    → part_at bytes limit border bad at ≡ Ok (Pointer target)
pointer_part bytes limit border bad at target within p =
    let inside : nat_le limit at ≡ false = grind (arith, nat_tests) in
    let byte = slice_index bytes at in
    let first : byte ≡ 192 + p.high = get_or_from_slice_get bytes at (192 + p.high) 0 p.first in
    let second : slice_index bytes (at + 1) ≡ p.low = get_or_from_slice_get bytes (at + 1) p.low 0 p.second in
    let is = p.is in
    let a : nat_eq byte 0 ≡ false = grind (arith, nat_tests) in
    let b : nat_lt byte 64 ≡ false = grind (arith, nat_tests) in
    let c : nat_lt byte 192 ≡ false = grind (arith, nat_tests) in
    let d : nat_le limit (at + 1) ≡ false = grind (arith, nat_tests) in
    let e : (byte - 192) * 256 + slice_index bytes (at + 1) ≡ target = omega arith in
    test_no (nat_le limit at) (Err border) (part_by bytes limit border bad at byte) inside ∙ (test_no (nat_eq byte 0) (Ok End) _ a
    ∙ (test_no (nat_lt byte 64) (Ok (Label byte)) _ b ∙ (test_no (nat_lt byte 192) (Err bad) _ c ∙ (test_no (nat_le limit (at + 1)) (Err border) _ d ∙ ap (λ n. Ok (Pointer n)) e))))

stands_within : (f : List ℕ → List ℕ) (bytes : List ℕ) (start at end : ℕ) (labels : List (List ℕ)) → Stands f bytes start at labels end → end ≤ length bytes
stands_within f bytes start at end labels (root_here _ _ _ z e) = let h = slice_get_within bytes at 0 z in omega arith
stands_within f bytes start at end labels (label_here _ _ _ w seen rest l s r) = stands_within f bytes start (at + 1 + length w) end rest r
stands_within f bytes start at end labels (pointer_here _ _ _ target past _ p less r e) = let h = slice_get_within bytes (at + 1) p.low p.second in omega arith

pub name_within_bytes : (bytes : List ℕ) (at : ℕ) (name : List (List ℕ)) (end : ℕ) → NameAt bytes at name end → (at < end) × (end ≤ length bytes)
name_within_bytes bytes at name end h = (name_takes folded_label bytes at at end name h.stands, stands_within folded_label bytes at at end name h.stands)

pub spelling_within : (bytes : List ℕ) (at : ℕ) (labels : List (List ℕ)) (end : ℕ) → SpeltAt bytes at labels end → end ≤ length bytes
spelling_within bytes at labels end h = stands_within as_written bytes at at end labels h.stands

wire_some : (f : List ℕ → List ℕ) (bytes : List ℕ) (start at end : ℕ) (labels : List (List ℕ)) → Stands f bytes start at labels end → 0 < length (wire labels)
wire_some f bytes start at end labels (root_here _ _ _ z e) = omega arith
wire_some f bytes start at end labels (label_here _ _ _ w seen rest l s r) = omega arith
wire_some f bytes start at end labels (pointer_here _ _ _ target past _ p less r e) = wire_some f bytes target target past labels r

spelt_reads : (fuel : ℕ) (bytes : List ℕ) (faults : Faults) (start at end : ℕ) (labels : List (List ℕ)) → Stands as_written bytes start at labels end
    → (limit : ℕ) (border : WireError) (room : ℕ) → start + room < fuel → limit ≤ length bytes → end ≤ limit → length (wire labels) ≤ room
    → spelt_from fuel bytes faults limit border start at room ≡ Ok (labels, end)
spelt_reads zero bytes faults start at end labels h limit border room enough fits within short = absurd (omega arith)
spelt_reads (suc fuel) bytes faults start at end labels (root_here _ _ _ z e) limit border room enough fits within short =
    let here = root_part bytes limit border faults.bad_label at (omega arith) z in
    ap (λ p. and_then p (followed (spelt_from fuel bytes faults) bytes faults limit border start at room)) here ∙ (λ i. Ok ([] ∷ [], sym e i))
spelt_reads (suc fuel) bytes faults start at end labels (label_here _ _ _ w seen rest l s r) limit border room enough fits within short =
    let n = l.nonempty in
    let m = l.short in
    let size = length w in
    let later = name_takes as_written bytes start (at + 1 + size) end rest r in
    let more = wire_some as_written bytes start (at + 1 + size) end rest r in
    let same : length seen ≡ length w = ap length s in
    let taken : length w + 1 + length (wire rest) ≤ room = omega (arith, length-append seen (wire rest)) in
    let here = label_part bytes limit border faults.bad_label at size (omega arith) l.head n m in
    let a : nat_lt room (size + 2) ≡ false = grind (arith, nat_tests) in
    let b : nat_lt limit (at + 1 + size) ≡ false = grind (arith, nat_tests) in
    let label = slice_range bytes (at + 1) (at + 1 + size) in
    let there = l.there in
    let text : label ≡ seen = range_takes bytes (at + 1) size w (at + 1 + size) (record { there = there; is = l.text; last = refl }) refl ∙ sym s in
    let behind = spelt_reads fuel bytes faults start (at + 1 + size) end rest r limit border (room - (size + 1)) (omega arith) fits within (omega arith) in
    ap (λ p. and_then p (followed (spelt_from fuel bytes faults) bytes faults limit border start at room)) here
    ∙ (test_no (nat_lt room (size + 2)) (Err faults.too_long) _ a ∙ (test_no (nat_lt limit (at + 1 + size)) (Err border) _ b
    ∙ (ap (λ x. and_then x (behind_label label)) behind ∙ (λ i. Ok (text i ∷ rest, end)))))
spelt_reads (suc fuel) bytes faults start at end labels (pointer_here _ _ _ target past _ p less r e) limit border room enough fits within short =
    let here = pointer_part bytes limit border faults.bad_label at target (omega arith) p in
    let a : nat_lt target start ≡ true = grind (arith, nat_tests) in
    let inside = stands_within as_written bytes target target past labels r in
    let behind = spelt_reads fuel bytes faults target target past labels r (length bytes) Short room (omega arith) (omega arith) inside short in
    ap (λ q. and_then q (followed (spelt_from fuel bytes faults) bytes faults limit border start at room)) here
    ∙ (test_yes (nat_lt target start) _ (Err faults.not_earlier) a ∙ (ap (λ x. and_then x (ends_at (at + 2))) behind ∙ (λ i. Ok (labels, sym e i))))

pub spelt_takes : (bytes : List ℕ) (faults : Faults) (limit at : ℕ) (labels : List (List ℕ)) (end : ℕ) → SpeltAt bytes at labels end → limit ≤ length bytes → end ≤ limit
    → spelt_at bytes faults limit at ≡ Ok (labels, end)
unfolding spelt_before
spelt_takes bytes faults limit at labels end h fits within =
    spelt_reads (at + 256) bytes faults at at end labels h.stands limit faults.border 255 (omega arith) fits within h.short

pub name_read : (bytes : List ℕ) (faults : Faults) (limit at : ℕ) (name : List (List ℕ)) (end : ℕ) → NameAt bytes at name end → limit ≤ length bytes → end ≤ limit
    → name_at bytes faults limit at ≡ Ok (name, end)
unfolding name_at
name_read bytes faults limit at name end h fits within =
    let found = name_spelt bytes at name end h in
    let same = name_one bytes at (folded_labels found.0) name end end (spelling_is_name bytes at found.0 end found.1) h in
    let folded = same.0 in
    ap (λ x. and_then x in_lower_case) (spelt_takes bytes faults limit at found.0 end found.1 fits within) ∙ (λ i. Ok (folded i, end))

pub full_within_bytes : (bytes : List ℕ) (at : ℕ) (name : List (List ℕ)) (end : ℕ) → FullAt bytes at name end → (at < end) × (end ≤ length bytes)
full_within_bytes bytes at name end h = (name_takes folded_label bytes 0 at end name h.stands, stands_within folded_label bytes 0 at end name h.stands)

pub full_read : (bytes : List ℕ) (faults : Faults) (limit at : ℕ) (name : List (List ℕ)) (end : ℕ) → FullAt bytes at name end → limit ≤ length bytes → end ≤ limit
    → full_name_at bytes faults limit at ≡ Ok (name, end)
unfolding full_name_at spelt_before
full_read bytes faults limit at name end h fits within =
    let found = spelling_of bytes 0 at end name h.stands in
    let folded = found.2 in
    let s = h.short in
    let short : length (wire found.0) ≤ 255 = omega (arith, wire_folded_long found.0, ap (λ x. length (wire x)) folded) in
    ap (λ x. and_then x in_lower_case) (spelt_reads 256 bytes faults 0 at end found.0 found.1 limit faults.border 255 (omega arith) fits within short)
    ∙ (λ i. Ok (sym folded i, end))
