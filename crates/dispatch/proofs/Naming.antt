-- Where a name that stands in full behind a header ends, label by label.
use Rattle.std.proofs.Common.{◌≡◌, ◌∙◌, sym, ap, subst, refl, ℕ, ◌+◌, ◌<◌, ◌≤◌, ◌↔◌, List, [], ◌∷◌, ◌++◌, Option, Some, None, length, take, drop, arith, length-append}
use Rattle.std.specs.Prelude.{slice_get, MatchOption}
use Rattle.std.proofs.lemmas.Option.{slice_get_within}
use Rattle.std.proofs.lemmas.List.{length-take, length-drop}
use Rattle.dname.specs.Labels.{folded_label, wire}
use Rattle.message_grammar.specs.Names.{IsLabelAt, Stands, root_here, label_here, pointer_here, FullAt}
use Rattle.message_grammar.proofs.Reading.{folded_long, one_reading}
use Rattle.message_grammar.proofs.Whole.{full_there, name_takes}
use Rattle.dispatch.specs.Questions.{EndsName, HasQuestion}

-- From a place on labels stand in full, and end there.
abbrev pub Named : List ℕ → ℕ → ℕ → Type 0
Named bytes at end = (name : List (List ℕ)) × Stands folded_label bytes 0 at name end

-- What is named behind the header is named from this place on, up to the same end.
abbrev pub Led : List ℕ → ℕ → Type 0
Led bytes at = (end : ℕ) → Named bytes 12 end ↔ Named bytes at end

pub led_first : (bytes : List ℕ) → Led bytes 12
led_first bytes end = (λ h. h, λ h. h)

-- A name has a first byte: 0, or the length of a label.
record HasByte (bytes : List ℕ) (at : ℕ) : Type 0 where
  byte : ℕ
  there : slice_get bytes at ≡ Some byte
  short : byte < 64

has_byte : (bytes : List ℕ) (at end : ℕ) (name : List (List ℕ)) → Stands folded_label bytes 0 at name end → HasByte bytes at
has_byte bytes at end name (root_here _ _ _ z e) = record { byte = 0; there = z; short = omega arith }
has_byte bytes at end name (label_here _ _ _ w seen rest l s r) = record { byte = length w; there = l.head; short = l.short }
has_byte bytes at end name (pointer_here _ _ _ target past _ p less r e) = absurd (omega arith)

-- ---- over one label

pub is_same : (bytes : List ℕ) (at a b : ℕ) → slice_get bytes at ≡ Some a → slice_get bytes at ≡ Some b → a ≡ b
is_same bytes at a b x y = cc

label_long : (bytes : List ℕ) (at size : ℕ) → at + 1 + size ≤ length bytes → length (take size (drop (at + 1) bytes)) ≡ size
label_long bytes at size room = omega (arith, length-take size (drop (at + 1) bytes), length-drop (at + 1) bytes)

past : (bytes : List ℕ) (at size end : ℕ) (name : List (List ℕ)) → slice_get bytes at ≡ Some size → 0 < size → Stands folded_label bytes 0 at name end
    → Named bytes (at + 1 + size) end
past bytes at size end name head some (root_here _ _ _ z e) = absurd (omega (arith, is_same bytes at 0 size z head))
past bytes at size end name head some (label_here _ _ _ w seen rest l s r) =
    (rest, subst (λ n. Stands folded_label bytes 0 (at + 1 + n) rest end) (is_same bytes at (length w) size l.head head) r)
past bytes at size end name head some (pointer_here _ _ _ target start _ p less r e) = absurd (omega arith)

before : (bytes : List ℕ) (at size end : ℕ) → slice_get bytes at ≡ Some size → 0 < size → size < 64 → Named bytes (at + 1 + size) end → Named bytes at end
before bytes at size end head some short (rest, r) =
    let next = has_byte bytes (at + 1 + size) end rest r in
    let room = slice_get_within bytes (at + 1 + size) next.byte next.there in
    let label = take size (drop (at + 1) bytes) in
    let long = label_long bytes at size (omega (arith, room)) in (
      folded_label label ∷ rest,
      label_here 0 at end label (folded_label label) rest (record {
        head = head ∙ ap Some (sym long);
        nonempty = omega (arith, long, some);
        short = omega (arith, long, short);
        there = omega (arith, long, room);
        text = ap (λ n. take n (drop (at + 1) bytes)) long;
      }) refl (subst (λ n. Stands folded_label bytes 0 (at + 1 + n) rest end) (sym long) r),
    )

pub led_on : (bytes : List ℕ) (at size : ℕ) → Led bytes at → slice_get bytes at ≡ Some size → 0 < size → size < 64 → Led bytes (at + 1 + size)
led_on bytes at size led head some short end = (
  λ h. let (name, stands) = (led end).0 h in past bytes at size end name head some stands,
  λ h. (led end).1 (before bytes at size end head some short h),
)

-- ---- at the end

in_full : (bytes : List ℕ) (at end : ℕ) (name : List (List ℕ)) → Stands folded_label bytes 0 at name end → end ≡ at + length (wire name)
in_full bytes at end name (root_here _ _ _ z e) = omega arith
in_full bytes at end name (label_here _ _ _ w seen rest l s r) =
    omega (arith, in_full bytes (at + 1 + length w) end rest r, folded_long w, ap length s, length-append seen (wire rest))
in_full bytes at end name (pointer_here _ _ _ target past _ p less r e) = absurd (omega arith)

-- The root's zero byte is there, within 255 bytes.
pub ends_there : (bytes : List ℕ) (at : ℕ) → Led bytes at → slice_get bytes at ≡ Some 0 → at < 267 → EndsName bytes (at + 1)
ends_there bytes at led zero near =
    let (name, stands) = (led (at + 1)).1 ([] ∷ [], root_here 0 at (at + 1) zero refl) in
    (name, record { stands = stands; short = omega (arith, in_full bytes 12 (at + 1) name stands, near) })

-- There is no byte, or one that is no length of a label.
pub ends_nowhere : (bytes : List ℕ) (at : ℕ) → Led bytes at → ((b : ℕ) → slice_get bytes at ≡ Some b → b < 64 → ⊥) → (end : ℕ) → EndsName bytes end → ⊥
ends_nowhere bytes at led none end (name, full) =
    let (rest, stands) = (led end).0 (name, full.stands) in
    let first = has_byte bytes at end rest stands in none first.byte first.there first.short

-- Too many bytes were passed.
pub ends_too_late : (bytes : List ℕ) (at : ℕ) → Led bytes at → 267 ≤ at → (end : ℕ) → EndsName bytes end → ⊥
ends_too_late bytes at led far end (name, full) =
    let (rest, stands) = (led end).0 (name, full.stands) in
    absurd (omega (arith, name_takes folded_label bytes 0 at end rest stands, (full_there bytes 12 name end full).1, full.short, far))

-- ---- a question

-- What is said of a result that is none.
pub at_none : (P : Type 0) (Q : ℕ → Type 0) (r : Option ℕ) → r ≡ None → P → MatchOption r P Q
at_none P Q r is p = subst (λ x. MatchOption x P Q) (sym is) p

pub no_question : (bytes : List ℕ) → ((end : ℕ) → EndsName bytes end → ⊥) → (end : ℕ) → HasQuestion bytes end → ⊥
no_question bytes none end h = none h.behind_name (h.name, h.full)

-- There is one end of a name behind the header.
one_end : (bytes : List ℕ) (a b : ℕ) → EndsName bytes a → EndsName bytes b → a ≡ b
one_end bytes a b (x, s) (y, t) =
    (one_reading folded_label bytes 0 12 a x s.stands 0 12 b y t.stands refl).1

pub question_too_long : (bytes : List ℕ) (at : ℕ) → EndsName bytes at → length bytes < at + 4 → (end : ℕ) → HasQuestion bytes end → ⊥
question_too_long bytes at named room end h =
    absurd (omega (arith, one_end bytes at h.behind_name named (h.name, h.full), h.is, h.room, room))
