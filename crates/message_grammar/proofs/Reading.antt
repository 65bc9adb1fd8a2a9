-- What stands at a place is one thing: labels, pointers, names.
use Rattle.std.proofs.Common.{◌≡◌, ℕ, ◌+◌, List, [], ◌∷◌, length, Some, refl, sym, ◌∙◌, ap, arith}
use Rattle.std.specs.Prelude.{slice_get}
use Rattle.std.proofs.lemmas.List.{length-map}
use Rattle.dname.specs.Labels.{folded_label, folded_labels}
use Rattle.message_grammar.specs.Names.{IsLabelAt, IsPointerAt, Stands, root_here, label_here, pointer_here, as_written, SpeltAt, NameAt}

some_is : {x y : ℕ} → Some x ≡ Some y → x ≡ y
some_is h = cc

-- Two bytes read at one place are one.
pub one_byte : (bytes : List ℕ) (at place x y : ℕ) → slice_get bytes at ≡ Some x → slice_get bytes place ≡ Some y → place ≡ at → x ≡ y
one_byte bytes at place x y h k same = some_is (sym h ∙ (ap (slice_get bytes) (sym same) ∙ k))

pub one_label : (bytes : List ℕ) (at place : ℕ) (a b : List ℕ) → IsLabelAt bytes at a → IsLabelAt bytes place b → place ≡ at → a ≡ b
one_label bytes at place a b h k same =
    let long : length a ≡ length b = one_byte bytes at place (length a) (length b) h.head k.head same in
    let first = h.text in
    let second = k.text in
    cc

pub no_label_at_root : (bytes : List ℕ) (at place : ℕ) (l : List ℕ) → slice_get bytes at ≡ Some 0 → IsLabelAt bytes place l → place ≡ at → ⊥
no_label_at_root bytes at place l h k same =
    let e = one_byte bytes at place 0 (length l) h k.head same in
    let n = k.nonempty in
    absurd (omega arith)

no_pointer_at_root : (bytes : List ℕ) (at place target : ℕ) → slice_get bytes at ≡ Some 0 → IsPointerAt bytes place target → place ≡ at → ⊥
no_pointer_at_root bytes at place target h k same =
    let e = one_byte bytes at place 0 (192 + k.high) h k.first same in
    absurd (omega arith)

pub no_pointer_at_label : (bytes : List ℕ) (at place target : ℕ) (l : List ℕ) → IsLabelAt bytes at l → IsPointerAt bytes place target → place ≡ at → ⊥
no_pointer_at_label bytes at place target l h k same =
    let e = one_byte bytes at place (length l) (192 + k.high) h.head k.first same in
    let s = h.short in
    absurd (omega arith)

one_pointer : (bytes : List ℕ) (at place a b : ℕ) → IsPointerAt bytes at a → IsPointerAt bytes place b → place ≡ at → a ≡ b
one_pointer bytes at place a b h k same =
    let e = one_byte bytes at place (192 + h.high) (192 + k.high) h.first k.first same in
    let n : place + 1 ≡ at + 1 = omega arith in
    let d = one_byte bytes (at + 1) (place + 1) h.low k.low h.second k.second n in
    let x = h.is in
    let y = k.is in
    omega arith

-- Labels at one place, seen in one way, are one list, and end at one place.
pub one_reading : (f : List ℕ → List ℕ) (bytes : List ℕ) (start at end : ℕ) (a : List (List ℕ)) → Stands f bytes start at a end
    → (first place last : ℕ) (b : List (List ℕ)) → Stands f bytes first place b last → place ≡ at → (a ≡ b) × (end ≡ last)
one_reading f bytes start at end a (root_here _ _ _ z e) first place last b (root_here _ _ _ y d) same = (refl, omega arith)
one_reading f bytes start at end a (root_here _ _ _ z e) first place last b (label_here _ _ _ w seen rest l s r) same =
    absurd (no_label_at_root bytes at place w z l same)
one_reading f bytes start at end a (root_here _ _ _ z e) first place last b (pointer_here _ _ _ target past _ p less r d) same =
    absurd (no_pointer_at_root bytes at place target z p same)
one_reading f bytes start at end a (label_here _ _ _ w seen rest l s r) first place last b (root_here _ _ _ y d) same =
    absurd (no_label_at_root bytes place at w y l (sym same))
one_reading f bytes start at end a (label_here _ _ _ w seen rest l s r) first place last b (label_here _ _ _ v looked more k t q) same =
    let e : w ≡ v = one_label bytes at place w v l k same in
    let long : length w ≡ length v = ap length e in
    let n : place + 1 + length v ≡ at + 1 + length w = omega arith in
    let both = one_reading f bytes start (at + 1 + length w) end rest r first (place + 1 + length v) last more q n in
    let tail : rest ≡ more = both.0 in
    let head : seen ≡ looked = s ∙ (ap f e ∙ sym t) in
    ((cc), both.1)
one_reading f bytes start at end a (label_here _ _ _ w seen rest l s r) first place last b (pointer_here _ _ _ target past _ p less q d) same =
    absurd (no_pointer_at_label bytes at place target w l p same)
one_reading f bytes start at end a (pointer_here _ _ _ target past _ p less r e) first place last b (root_here _ _ _ y d) same =
    absurd (no_pointer_at_root bytes place at target y p (sym same))
one_reading f bytes start at end a (pointer_here _ _ _ target past _ p less r e) first place last b (label_here _ _ _ v looked more k t q) same =
    absurd (no_pointer_at_label bytes place at target v k p (sym same))
one_reading f bytes start at end a (pointer_here _ _ _ target past _ p less r e) first place last b (pointer_here _ _ _ goal gone _ q lower s d) same =
    let t : goal ≡ target = one_pointer bytes place at goal target q p (sym same) in
    let both = one_reading f bytes target target past a r goal goal gone b s t in
    (both.0, omega arith)

-- A spelling in lower case is the name.
pub folds_to : (bytes : List ℕ) (start at end : ℕ) (labels : List (List ℕ)) → Stands as_written bytes start at labels end
    → Stands folded_label bytes start at (folded_labels labels) end
folds_to bytes start at end labels (root_here _ _ _ z e) = root_here start at end z e
folds_to bytes start at end labels (label_here _ _ _ w seen rest l s r) =
    label_here start at end w (folded_label seen) (folded_labels rest) l (ap folded_label s) (folds_to bytes start (at + 1 + length w) end rest r)
folds_to bytes start at end labels (pointer_here _ _ _ target past _ p less r e) =
    pointer_here start at end target past (folded_labels labels) p less (folds_to bytes target target past labels r) e

-- A name is some spelling in lower case.
pub spelling_of : (bytes : List ℕ) (start at end : ℕ) (name : List (List ℕ)) → Stands folded_label bytes start at name end
    → (labels : List (List ℕ)) × Stands as_written bytes start at labels end × (name ≡ folded_labels labels)
spelling_of bytes start at end name (root_here _ _ _ z e) = ([] ∷ [], root_here start at end z e, refl)
spelling_of bytes start at end name (label_here _ _ _ w seen rest l s r) =
    let found = spelling_of bytes start (at + 1 + length w) end rest r in
    let tail = found.2 in
    (w ∷ found.0, label_here start at end w w found.0 l refl found.1, (cc))
spelling_of bytes start at end name (pointer_here _ _ _ target past _ p less r e) =
    let found = spelling_of bytes target target past name r in
    (found.0, pointer_here start at end target past found.0 p less found.1 e, found.2)

-- Lower case changes no length.
pub folded_long : (l : List ℕ) → length (folded_label l) ≡ length l
folded_long l = search (arith, length-map)

pub name_one : (bytes : List ℕ) (at : ℕ) (a b : List (List ℕ)) (x y : ℕ) → NameAt bytes at a x → NameAt bytes at b y → (a ≡ b) × (x ≡ y)
name_one bytes at a b x y h k = one_reading folded_label bytes at at x a h.stands at at y b k.stands refl

pub spelling_one : (bytes : List ℕ) (at : ℕ) (a b : List (List ℕ)) (x y : ℕ) → SpeltAt bytes at a x → SpeltAt bytes at b y → (a ≡ b) × (x ≡ y)
spelling_one bytes at a b x y h k = one_reading as_written bytes at at x a h.stands at at y b k.stands refl
