-- Records read without their owners' names.
use Rattle.std.proofs.Common.{◌≡◌, ℕ, ◌+◌, ◌-◌, ◌*◌, ◌<◌, ◌≤◌, Bool, true, false, List, length, Option, Some, None, Result, Ok, Err, refl, sym, ◌∙◌, ap, subst, arith}
use Rattle.std.specs.Prelude.{is_some, nat_eq, nat_le, nat_lt, if◌then◌else◌, slice_index}
use Rattle.std.proofs.lemmas.Bool.Decides.{nat_tests}
use Rattle.dname.specs.Labels.{folded_labels}
use Rattle.rdata.specs.Data.{Datum}
use Rattle.rdata.specs.Records.{Record}
use Rattle.rdata.specs.declared.rtype.RType.{RType}
use Rattle.message_grammar.specs.Messages.{served_type, ttl_of}
use Rattle.wire.specs.declared.error.WireError.{WireError}
use Rattle.wire.specs.declared.error.WireError.TheVariants.{Short, BadLabel, BadRdataLength}
use Rattle.wire.specs.declared.parts.Part.{Part}
use Rattle.wire.specs.declared.parts.Faults.{Faults}
use Rattle.wire.specs.declared.parts.Part.TheVariants.{End, Label, Pointer}
use Rattle.wire.specs.Numbers.{two_at, four_at}
use Rattle.wire.specs.Parts.{message_faults, part_by, part_at, ends_at, followed, spelt_from, spelt_before, spelt_at, in_lower_case, name_at}
use Rattle.wire.specs.Values.{form_at, value_at, whole as fills}
use Rattle.wire.specs.Results.{Fails, and_then, end_of}
use Rattle.wire.specs.Entries.{kept_value, entry_kept, entry_sized, entry_behind, entry_at}
use Rattle.wire.specs.Skips.{IsSkipping}
use Rattle.wire.specs.Views.{labels_in}
use Rattle.std.specs.Result.{IsErrAnd}
use Rattle.wire.proofs.Walks.{Spelt, unfueled, fails_is, fails_with}
use Rattle.wire.proofs.Ends.{ended, not_ended}

-- ---- a record behind its owner

entry_by : (bytes : List ℕ) (at : ℕ) (r : Spelt) → name_at bytes message_faults (length bytes) at ≡ r → entry_at bytes at ≡ and_then r (entry_behind bytes)
unfolding entry_at
entry_by bytes at r h = ap (λ x. and_then x (entry_behind bytes)) h

pub skip_refused : (bytes : List ℕ) (at : ℕ) (e : WireError) → Err e ≡ end_of (name_at bytes message_faults (length bytes) at) → entry_at bytes at ≡ Err e
skip_refused bytes at e h = entry_by bytes at (Err e) (not_ended (name_at bytes message_faults (length bytes) at) e h)

yes : (b : Bool) (x y : Result (Option Record × ℕ) WireError) → b ≡ true → (if b then x else y) ≡ x
yes b x y h = ap (λ c. if c then x else y) h

no : (b : Bool) (x y : Result (Option Record × ℕ) WireError) → b ≡ false → (if b then x else y) ≡ y
no b x y h = ap (λ c. if c then x else y) h

-- The record behind an owner of which the end alone is known.
abbrev pub owner_at : List ℕ → ℕ → List (List ℕ)
owner_at bytes at = labels_in (name_at bytes message_faults (length bytes) at)

pub named_there : (r : Spelt) (past : ℕ) → Ok past ≡ end_of r → r ≡ Ok (labels_in r, past)
named_there (Ok (name, end)) past h = let same : past ≡ end = cc in λ i. Ok (name, sym same i)
named_there (Err e) past h = absurd (cc)

pub behind : (bytes : List ℕ) (at past : ℕ) → Ok past ≡ end_of (name_at bytes message_faults (length bytes) at) → entry_at bytes at ≡ entry_behind bytes (owner_at bytes at, past)
behind bytes at past h =
    entry_by bytes at (Ok (owner_at bytes at, past)) (named_there (name_at bytes message_faults (length bytes) at) past h)

pub sized : (bytes : List ℕ) (at past : ℕ) → Ok past ≡ end_of (name_at bytes message_faults (length bytes) at) → 10 ≤ length bytes - past
    → entry_at bytes at ≡ entry_sized bytes (owner_at bytes at) past
sized bytes at past h there =
    let b : nat_lt (length bytes) (past + 10) ≡ false = grind (arith, nat_tests) in
    behind bytes at past h ∙ no (nat_lt (length bytes) (past + 10)) _ _ b

pub whole : (bytes : List ℕ) (at past : ℕ) (o : Option RType) → Ok past ≡ end_of (name_at bytes message_faults (length bytes) at) → 10 ≤ length bytes - past
    → two_at bytes (past + 8) ≤ length bytes - (past + 10) → o ≡ served_type (two_at bytes past) (two_at bytes (past + 2))
    → entry_at bytes at ≡ entry_kept o bytes (owner_at bytes at) (four_at bytes (past + 4)) (past + 10) (past + 10 + two_at bytes (past + 8))
whole bytes at past o h there fits is =
    let b : nat_lt (length bytes) (past + 10 + two_at bytes (past + 8)) ≡ false = grind (arith, nat_tests) in
    sized bytes at past h there ∙ (no (nat_lt (length bytes) (past + 10 + two_at bytes (past + 8))) _ _ b
    ∙ ap (λ x. entry_kept x bytes (owner_at bytes at) (four_at bytes (past + 4)) (past + 10) (past + 10 + two_at bytes (past + 8))) (sym is))

abbrev record_in : Result (Option Record × ℕ) WireError → Option Record
record_in (Ok x) = x.0
record_in (Err e) = None

abbrev end_in : Spelt → ℕ
end_in (Ok x) = x.1
end_in (Err e) = 0

-- A record of a served type is no skipped one.
kept_is_some : (kind : RType) (bytes : List ℕ) (owner : List (List ℕ)) (ttl at end past : ℕ) → entry_kept (Some kind) bytes owner ttl at end ≡ Ok (None, past) → ⊥
kept_is_some kind bytes owner ttl at end past h = by (value_at kind bytes at end) h
  where
    by : (r : Result Datum WireError) → and_then r (kept_value owner ttl end) ≡ Ok (None, past) → ⊥
    by (Ok value) is = let some : Some _ ≡ None = ap record_in is in cc
    by (Err e) is = cc

-- ---- what stands behind an owner

-- The record behind an owner that ends at `at`, by what stands before its RDATA.
abbrev pub body_of : List ℕ → ℕ → List (List ℕ) → Option RType × ℕ → Result (Option Record × ℕ) WireError
body_of bytes at owner b = entry_kept b.0 bytes owner (four_at bytes (at + 4)) (at + 10) (at + 10 + b.1)

abbrev pub IsBody : List ℕ → ℕ → Result (Option RType × ℕ) WireError → Type 0
IsBody bytes at r = (owner : List (List ℕ)) → entry_behind bytes (owner, at) ≡ and_then r (body_of bytes at owner)

pub body_short : (bytes : List ℕ) (at : ℕ) → at ≤ length bytes → length bytes - at < 10 → IsBody bytes at (Err Short)
body_short bytes at within short owner =
    let b : nat_lt (length bytes) (at + 10) ≡ true = grind (arith, nat_tests) in
    yes (nat_lt (length bytes) (at + 10)) (Err Short) (entry_sized bytes owner at) b

body_sized : (bytes : List ℕ) (at : ℕ) (owner : List (List ℕ)) → 10 ≤ length bytes - at → entry_behind bytes (owner, at) ≡ entry_sized bytes owner at
body_sized bytes at owner there =
    let b : nat_lt (length bytes) (at + 10) ≡ false = grind (arith, nat_tests) in
    no (nat_lt (length bytes) (at + 10)) (Err Short) (entry_sized bytes owner at) b

pub body_cut : (bytes : List ℕ) (at size : ℕ) → 10 ≤ length bytes - at → size ≡ two_at bytes (at + 8) → length bytes - at - 10 < size → IsBody bytes at (Err Short)
body_cut bytes at size there is short owner =
    let b : nat_lt (length bytes) (at + 10 + size) ≡ true = grind (arith, nat_tests) in
    body_sized bytes at owner there
    ∙ yes (nat_lt (length bytes) (at + 10 + two_at bytes (at + 8))) (Err Short) _ (ap (λ n. nat_lt (length bytes) (at + 10 + n)) (sym is) ∙ b)

pub body_whole : (bytes : List ℕ) (at size : ℕ) (kind : Option RType) → 10 ≤ length bytes - at → size ≡ two_at bytes (at + 8) → size ≤ length bytes - at - 10
    → kind ≡ served_type (two_at bytes at) (two_at bytes (at + 2)) → IsBody bytes at (Ok (kind, size))
body_whole bytes at size kind there is fits served owner =
    let b : nat_lt (length bytes) (at + 10 + size) ≡ false = grind (arith, nat_tests) in
    body_sized bytes at owner there
    ∙ (no (nat_lt (length bytes) (at + 10 + two_at bytes (at + 8))) (Err Short) _ (ap (λ n. nat_lt (length bytes) (at + 10 + n)) (sym is) ∙ b)
    ∙ (λ i. body_of bytes at owner (sym served i, sym is i)))

pub by_body : (bytes : List ℕ) (at past : ℕ) (r : Result (Option RType × ℕ) WireError) → Ok past ≡ end_of (name_at bytes message_faults (length bytes) at) → IsBody bytes past r
    → entry_at bytes at ≡ and_then r (body_of bytes past (owner_at bytes at))
by_body bytes at past r h is = behind bytes at past h ∙ is (owner_at bytes at)

pub skip_done : (bytes : List ℕ) (at past size : ℕ) (kind : Option RType) → Ok past ≡ end_of (name_at bytes message_faults (length bytes) at) → IsBody bytes past (Ok (kind, size))
    → kind ≡ None → entry_at bytes at ≡ Ok (None, past + 10 + size)
skip_done bytes at past size kind h is none =
    by_body bytes at past (Ok (kind, size)) h is ∙ ap (λ o. body_of bytes past (owner_at bytes at) (o, size)) none

pub skip_kept : (bytes : List ℕ) (at past size : ℕ) (o : Option RType) (kind : RType) → Ok past ≡ end_of (name_at bytes message_faults (length bytes) at)
    → IsBody bytes past (Ok (o, size)) → o ≡ Some kind → (end : ℕ) → entry_at bytes at ≡ Ok (None, end) → ⊥
skip_kept bytes at past size o kind h is some end read =
    kept_is_some kind bytes (owner_at bytes at) (four_at bytes (past + 4)) (past + 10) (past + 10 + size) end
    (sym (by_body bytes at past (Ok (o, size)) h is ∙ ap (λ x. body_of bytes past (owner_at bytes at) (x, size)) some) ∙ read)

-- ---- the end of RDATA of a served type

formed : (bytes : List ℕ) (at past size : ℕ) (o : Option RType) (kind : RType) (r : Result (Datum × ℕ) WireError) → Ok past ≡ end_of (name_at bytes message_faults (length bytes) at)
    → IsBody bytes past (Ok (o, size)) → o ≡ Some kind → form_at kind bytes (past + 10) (past + 10 + size) ≡ r
    → end_of (entry_at bytes at) ≡ end_of (and_then (and_then r (fills (past + 10 + size))) (kept_value (owner_at bytes at) (four_at bytes (past + 4)) (past + 10 + size)))
unfolding value_at
formed bytes at past size o kind r h is some form =
    ap end_of (by_body bytes at past (Ok (o, size)) h is ∙ ap (λ x. body_of bytes past (owner_at bytes at) (x, size)) some)
    ∙ ap (λ x. end_of (and_then (and_then x (fills (past + 10 + size))) (kept_value (owner_at bytes at) (four_at bytes (past + 4)) (past + 10 + size)))) form

-- RDATA that are refused in the form of their type.
pub form_fails : (bytes : List ℕ) (at past size : ℕ) (o : Option RType) (kind : RType) (e : WireError) → Ok past ≡ end_of (name_at bytes message_faults (length bytes) at)
    → IsBody bytes past (Ok (o, size)) → o ≡ Some kind → Err e ≡ end_of (form_at kind bytes (past + 10) (past + 10 + size)) → Err e ≡ end_of (entry_at bytes at)
form_fails bytes at past size o kind e h is some bad =
    sym (formed bytes at past size o kind (Err e) h is some (not_ended (form_at kind bytes (past + 10) (past + 10 + size)) e bad))

-- RDATA that do not fill their length.
pub form_spare : (bytes : List ℕ) (at past size next : ℕ) (o : Option RType) (kind : RType) → Ok past ≡ end_of (name_at bytes message_faults (length bytes) at)
    → IsBody bytes past (Ok (o, size)) → o ≡ Some kind → Ok next ≡ end_of (form_at kind bytes (past + 10) (past + 10 + size)) → (next ≡ past + 10 + size → ⊥)
    → Err BadRdataLength ≡ end_of (entry_at bytes at)
form_spare bytes at past size next o kind h is some ends other =
    let (value, form) = ended (form_at kind bytes (past + 10) (past + 10 + size)) next ends in
    let b : nat_eq next (past + 10 + size) ≡ false = grind (arith, nat_tests) in
    sym (formed bytes at past size o kind (Ok (value, next)) h is some form
    ∙ ap (λ c. end_of (and_then (if c then Ok value else Err BadRdataLength) (kept_value (owner_at bytes at) (four_at bytes (past + 4)) (past + 10 + size)))) b)

pub form_fills : (bytes : List ℕ) (at past size next : ℕ) (o : Option RType) (kind : RType) → Ok past ≡ end_of (name_at bytes message_faults (length bytes) at)
    → IsBody bytes past (Ok (o, size)) → o ≡ Some kind → Ok next ≡ end_of (form_at kind bytes (past + 10) (past + 10 + size)) → next ≡ past + 10 + size
    → Ok (past + 10 + size) ≡ end_of (entry_at bytes at)
form_fills bytes at past size next o kind h is some ends same =
    let (value, form) = ended (form_at kind bytes (past + 10) (past + 10 + size)) next ends in
    let b : nat_eq next (past + 10 + size) ≡ true = grind (arith, nat_tests) in
    sym (formed bytes at past size o kind (Ok (value, next)) h is some form
    ∙ ap (λ c. end_of (and_then (if c then Ok value else Err BadRdataLength) (kept_value (owner_at bytes at) (four_at bytes (past + 4)) (past + 10 + size)))) b)

-- ---- a record that is built

pub named : (bytes : List ℕ) (at : ℕ) (faults : Faults) (r : Spelt) → faults ≡ message_faults → name_at bytes faults (length bytes) at ≡ r
    → name_at bytes message_faults (length bytes) at ≡ r
named bytes at faults r are h = ap (λ f. name_at bytes f (length bytes) at) (sym are) ∙ h

pub owner_fails : (bytes : List ℕ) (at : ℕ) (faults : Faults) (e : WireError) → faults ≡ message_faults → Fails e (name_at bytes faults (length bytes) at) → Fails e (entry_at bytes at)
owner_fails bytes at faults e are h =
    fails_with e (name_at bytes faults (length bytes) at) (entry_at bytes at) (λ k. entry_by bytes at (Err e) (named bytes at faults (Err e) are k)) h

pub owned : (bytes : List ℕ) (at past : ℕ) (owner : List (List ℕ)) (r : Result (Option RType × ℕ) WireError)
    → name_at bytes message_faults (length bytes) at ≡ Ok (owner, past) → IsBody bytes past r → entry_at bytes at ≡ and_then r (body_of bytes past owner)
owned bytes at past owner r h is = entry_by bytes at (Ok (owner, past)) h ∙ is owner

pub body_fails : (bytes : List ℕ) (at past : ℕ) (owner : List (List ℕ)) (e : WireError) → name_at bytes message_faults (length bytes) at ≡ Ok (owner, past) → IsBody bytes past (Err e)
    → Fails e (entry_at bytes at)
body_fails bytes at past owner e h is = fails_is e (entry_at bytes at) (owned bytes at past owner (Err e) h is)

pub unserved : (bytes : List ℕ) (at past size : ℕ) (owner : List (List ℕ)) (o : Option RType) → name_at bytes message_faults (length bytes) at ≡ Ok (owner, past)
    → IsBody bytes past (Ok (o, size)) → o ≡ None → entry_at bytes at ≡ Ok (None, past + 10 + size)
unserved bytes at past size owner o h is none =
    owned bytes at past owner (Ok (o, size)) h is ∙ ap (λ x. body_of bytes past owner (x, size)) none

served : (bytes : List ℕ) (at past size : ℕ) (owner : List (List ℕ)) (o : Option RType) (kind : RType) → name_at bytes message_faults (length bytes) at ≡ Ok (owner, past)
    → IsBody bytes past (Ok (o, size)) → o ≡ Some kind
    → entry_at bytes at ≡ and_then (value_at kind bytes (past + 10) (past + 10 + size)) (kept_value owner (four_at bytes (past + 4)) (past + 10 + size))
served bytes at past size owner o kind h is some =
    owned bytes at past owner (Ok (o, size)) h is ∙ ap (λ x. body_of bytes past owner (x, size)) some

pub value_fails : (bytes : List ℕ) (at past size : ℕ) (owner : List (List ℕ)) (o : Option RType) (kind : RType) (e : WireError)
    → name_at bytes message_faults (length bytes) at ≡ Ok (owner, past) → IsBody bytes past (Ok (o, size)) → o ≡ Some kind
    → Fails e (value_at kind bytes (past + 10) (past + 10 + size)) → Fails e (entry_at bytes at)
value_fails bytes at past size owner o kind e h is some fails =
    fails_with e (value_at kind bytes (past + 10) (past + 10 + size)) (entry_at bytes at)
    (λ k. served bytes at past size owner o kind h is some ∙ ap (λ x. and_then x (kept_value owner (four_at bytes (past + 4)) (past + 10 + size))) k) fails

pub record_read : (bytes : List ℕ) (at past size ttl number : ℕ) (owner : List (List ℕ)) (o : Option RType) (kind : RType) (value : Datum)
    → name_at bytes message_faults (length bytes) at ≡ Ok (owner, past) → IsBody bytes past (Ok (o, size)) → o ≡ Some kind
    → value_at kind bytes (past + 10) (past + 10 + size) ≡ Ok value → ttl ≡ ttl_of number → number ≡ four_at bytes (past + 4)
    → entry_at bytes at ≡ Ok (Some (record { owner = owner; ttl = ttl; value = value }), past + 10 + size)
record_read bytes at past size ttl number owner o kind value h is some read t n =
    served bytes at past size owner o kind h is some
    ∙ (ap (λ x. and_then x (kept_value owner (four_at bytes (past + 4)) (past + 10 + size))) read
    ∙ (λ i. Ok (Some (record { owner = owner; ttl = sym (t ∙ ap ttl_of n) i; value = value }), past + 10 + size)))

-- ---- a record whose owner is a pointer

pointer_there : (bytes : List ℕ) (at : ℕ) → 192 ≤ slice_index bytes at → at + 1 < length bytes
    → part_at bytes (length bytes) Short BadLabel at ≡ Ok (Pointer ((slice_index bytes at - 192) * 256 + slice_index bytes (at + 1)))
pointer_there bytes at high within =
    let byte = slice_index bytes at in
    let inside : nat_le (length bytes) at ≡ false = grind (arith, nat_tests) in
    let a : nat_eq byte 0 ≡ false = grind (arith, nat_tests) in
    let b : nat_lt byte 64 ≡ false = grind (arith, nat_tests) in
    let c : nat_lt byte 192 ≡ false = grind (arith, nat_tests) in
    let d : nat_le (length bytes) (at + 1) ≡ false = grind (arith, nat_tests) in
    part_no (nat_le (length bytes) at) (Err Short) (part_by bytes (length bytes) Short BadLabel at byte) inside ∙ (part_no (nat_eq byte 0) (Ok End) _ a
    ∙ (part_no (nat_lt byte 64) (Ok (Label byte)) _ b ∙ (part_no (nat_lt byte 192) (Err BadLabel) _ c ∙ part_no (nat_le (length bytes) (at + 1)) (Err Short) _ d)))
  where
    part_no : (b : Bool) (x y : Result Part WireError) → b ≡ false → (if b then x else y) ≡ y
    part_no b x y h = ap (λ c. if c then x else y) h

-- What lies in place of a name that begins with a pointer is two bytes.
ends_behind : (b : Bool) (go : Spelt) (at : ℕ) (e : WireError) (labels : List (List ℕ)) (end : ℕ) → (if b then and_then go (ends_at (at + 2)) else Err e) ≡ Ok (labels, end) → end ≡ at + 2
ends_behind true (Ok (found, past)) at e labels end h = sym (ap end_in h)
ends_behind true (Err d) at e labels end h = absurd (cc)
ends_behind false go at e labels end h = absurd (cc)

pointer_ends : (bytes : List ℕ) (at : ℕ) (labels : List (List ℕ)) (end : ℕ) → 192 ≤ slice_index bytes at → at + 1 < length bytes
    → spelt_at bytes message_faults (length bytes) at ≡ Ok (labels, end) → end ≡ at + 2
unfolding spelt_before
pointer_ends bytes at labels end high within h =
    let target = (slice_index bytes at - 192) * 256 + slice_index bytes (at + 1) in
    let first = unfueled (at + 256) bytes message_faults (length bytes) Short at at 255 (omega arith) in
    let here = ap (λ p. and_then p (followed (spelt_from (at + 256 - 1) bytes message_faults) bytes message_faults (length bytes) Short at at 255)) (pointer_there bytes at high within) in
    ends_behind (nat_lt target at) (spelt_from (at + 256 - 1) bytes message_faults (length bytes) Short target target 255) at message_faults.not_earlier labels end (sym here ∙ (sym first ∙ h))

pub usual_kept : (bytes : List ℕ) (at : ℕ) (kind : RType) → 192 ≤ slice_index bytes at → 12 ≤ length bytes - at
    → Some kind ≡ served_type (two_at bytes (at + 2)) (two_at bytes (at + 4)) → (end : ℕ) → entry_at bytes at ≡ Ok (None, end) → ⊥
unfolding name_at entry_at
usual_kept bytes at kind high there is end read = by (spelt_at bytes message_faults (length bytes) at) refl read
  where
    kept : (b c : Bool) (labels : List (List ℕ)) (past : ℕ) → past ≡ at + 2
        → (if b then Err Short else (if c then Err Short else entry_kept (served_type (two_at bytes past) (two_at bytes (past + 2))) bytes (folded_labels labels) (four_at bytes (past + 4)) (past + 10) (past + 10 + two_at bytes (past + 8))))
        ≡ Ok (None, end) → ⊥
    kept true c labels past same h = cc
    kept false true labels past same h = cc
    kept false false labels past same h =
        let next : past + 2 ≡ at + 4 = omega arith in
        let found : served_type (two_at bytes past) (two_at bytes (past + 2)) ≡ Some kind = (λ i. served_type (two_at bytes (same i)) (two_at bytes (next i))) ∙ sym is in
        kept_is_some kind bytes (folded_labels labels) (four_at bytes (past + 4)) (past + 10) (past + 10 + two_at bytes (past + 8)) end
        (sym (ap (λ o. entry_kept o bytes (folded_labels labels) (four_at bytes (past + 4)) (past + 10) (past + 10 + two_at bytes (past + 8))) found) ∙ h)

    by : (r : Spelt) → spelt_at bytes message_faults (length bytes) at ≡ r → and_then (and_then r in_lower_case) (entry_behind bytes) ≡ Ok (None, end) → ⊥
    by (Ok (labels, past)) spelt h =
        kept (nat_lt (length bytes) (past + 10)) (nat_lt (length bytes) (past + 10 + two_at bytes (past + 8))) labels past
        (pointer_ends bytes at labels past high (omega arith) spelt) h
    by (Err e) spelt h = cc

-- What a `?` hands on.
pub handed : {X : Type 0} (r : Result X WireError) (e : WireError) → IsErrAnd r (λ y. y ≡ e) → r ≡ Err e
handed (Ok x) e h = absurd h
handed (Err d) e h = ap (λ y. Err y) h

pub usual_by : (bytes : List ℕ) (at : ℕ) (o : Option RType) → 192 ≤ slice_index bytes at → 12 ≤ length bytes - at → o ≡ served_type (two_at bytes (at + 2)) (two_at bytes (at + 4))
    → is_some o ≡ true → (end : ℕ) → entry_at bytes at ≡ Ok (None, end) → ⊥
usual_by bytes at None high there is some end read = cc
usual_by bytes at (Some kind) high there is some end read = usual_kept bytes at kind high there is end read

pub skipping_refused : (r : Result (Option ℕ) WireError) (e : WireError) (read : Result (Option Record × ℕ) WireError) → r ≡ Err e → read ≡ Err e → IsSkipping r read
skipping_refused r e read h k = subst (λ (x : Result (Option ℕ) WireError). IsSkipping x read) (sym h) k
