-- `is_under`, the test, decides `IsAtOrUnder`, and may be made from the first label on by length.
use Rattle.std.proofs.Common.{◌≡◌, ℕ, ◌<◌, ◌≤◌, ◌≢◌, ◌-◌, Bool, true, false, ◌||◌, List, [], ◌∷◌, ◌++◌, length, take, drop, refl, sym, ◌∙◌, ap, subst, arith, length-append, append_assoc, eqb-true, eq-eqb}
use Rattle.std.proofs.Math.Seq.{drop-append_seam}
use Rattle.std.proofs.lemmas.Bool.Decides.{same_from_decides, Decides-eqb}
use Rattle.std.proofs.lemmas.Slice.Eq.{ends_is}
use Rattle.std.specs.Cmp.Lexicographic.{pointwise, unequal, bytes_decides}
use Rattle.std.specs.Prelude.{nat_eq, IsTrue}
use Rattle.dname.specs.Labels.{wire, root, same_name, is_under, IsAtOrUnder}
use Rattle.dname.specs.Wire.{labels_of, IsWire, IsSplit}
use Rattle.dname.specs.Laws.{same_name-exact, same_name-equal}
use Rattle.dname.proofs.Drafts.{wire-append}

same_name-long : (a b : List (List ℕ)) → length (wire a) ≢ length (wire b) → same_name a b ≡ false
same_name-long a b h = unequal nat_eq (wire a) (wire b) h

-- A shorter name is not under a longer one.
under_shorter : (a b : List (List ℕ)) → length (wire a) < length (wire b) → is_under a b ≡ false
under_shorter [] b h = same_name-long [] b (omega arith)
under_shorter (l ∷ ls) b h =
    rw (same_name-long (l ∷ ls) b (omega arith)) (under_shorter ls b (let e = length-append l (wire ls) in omega arith))

-- The first label counts for nothing where the name is longer than the other.
pub under_longer : (l : List ℕ) (ls b : List (List ℕ)) → length (wire b) < length (wire (l ∷ ls)) → is_under (l ∷ ls) b ≡ is_under ls b
under_longer l ls b h = rw (same_name-long (l ∷ ls) b (omega arith)) refl

or_false : (x y : Bool) → y ≡ false → (x || y) ≡ x
or_false true y h = refl
or_false false y h = h

-- Where it is no longer it is that name or not under it.
pub under_end : (a b : List (List ℕ)) → length (wire a) ≤ length (wire b) → is_under a b ≡ same_name a b
under_end [] b h = refl
under_end (l ∷ ls) b h = or_false (same_name (l ∷ ls) b) (is_under ls b) (under_shorter ls b (let e = length-append l (wire ls) in omega arith))

from_or : (x y : Bool) (P : Type 0) → (x ≡ true → P) → (y ≡ true → P) → (x || y) ≡ true → P
from_or true y P f g h = f refl
from_or false y P f g h = g h

or_right : (x y : Bool) → y ≡ true → (x || y) ≡ true
or_right true y h = refl
or_right false y h = h

pub under_is : (a b : List (List ℕ)) → is_under a b ≡ true → IsAtOrUnder a b
under_is [] b h = ([], same_name-exact [] b h)
under_is (l ∷ ls) b h = from_or (same_name (l ∷ ls) b) (is_under ls b) (IsAtOrUnder (l ∷ ls) b)
    (λ e. ([], same_name-exact (l ∷ ls) b e))
    (λ e. let u = under_is ls b e in (l ∷ u.0, ap (λ (x : List (List ℕ)). l ∷ x) u.1)) h

itself : (b : List (List ℕ)) → is_under b b ≡ true
itself [] = same_name-equal [] [] refl
itself (l ∷ ls) = rw (same_name-equal (l ∷ ls) (l ∷ ls) refl) refl

under_front : (front b : List (List ℕ)) → is_under (front ++ b) b ≡ true
under_front [] b = itself b
under_front (l ∷ front) b = or_right (same_name (l ∷ (front ++ b)) b) (is_under (front ++ b) b) (under_front front b)

pub is_under_holds : (a b : List (List ℕ)) → IsAtOrUnder a b → is_under a b ≡ true
is_under_holds a b h = subst (λ (x : List (List ℕ)). is_under x b ≡ true) (sym h.1) (under_front h.0 b)

-- A step of the walk to the end that is no longer than the other name.
pub under_step : (bs label rest : List ℕ) (n : List (List ℕ)) (size : ℕ) → IsWire bs → IsSplit bs label rest → length (wire n) ≡ size → size < length bs
    → is_under (labels_of bs) n ≡ is_under (labels_of rest) n
under_step bs label rest n size h s e lt =
    let whole : wire (label ∷ labels_of rest) ≡ bs = ap wire (sym s.labels) ∙ h.bytes in
    ap (λ (x : List (List ℕ)). is_under x n) s.labels ∙ under_longer label (labels_of rest) n (omega (arith, ap length whole))

-- The root's one byte.
pub root_short : (bs : List ℕ) (size : ℕ) → IsWire bs → labels_of bs ≡ root → 0 < size → length bs ≤ size
root_short bs size h e lt = let whole : wire root ≡ bs = ap wire (sym e) ∙ h.bytes in omega (arith, ap length whole)

-- An end no longer than the other name is it, byte by byte, or the name is not under it.
pub under_bytes : (tail other : List ℕ) (n : List (List ℕ)) (same : Bool) → IsWire tail → IsWire other → length tail ≤ length other → is_under n (labels_of other) ≡ is_under (labels_of tail) (labels_of other)
    → same ≡ pointwise nat_eq tail other → same ≡ is_under n (labels_of other)
under_bytes tail other n same ht ho le eu es =
    let short : length (wire (labels_of tail)) ≤ length (wire (labels_of other)) = omega (arith, ap length ht.bytes, ap length ho.bytes) in
    es ∙ (ap (λ (x : List ℕ). pointwise nat_eq x other) (sym ht.bytes) ∙ (ap (λ (x : List ℕ). pointwise nat_eq (wire (labels_of tail)) x) (sym ho.bytes)
    ∙ (sym (under_end (labels_of tail) (labels_of other) short) ∙ sym eu)))

-- What stands behind a label of an end is an end.
pub end_step : (whole bs label rest : List ℕ) → ((front : List ℕ) × (whole ≡ front ++ bs)) → IsSplit bs label rest → (front : List ℕ) × (whole ≡ front ++ rest)
end_step whole bs label rest h s =
    (h.0 ++ length label ∷ label, h.1 ∙ (ap (λ (x : List ℕ). h.0 ++ x) s.bytes ∙ sym (append_assoc h.0 (length label ∷ label) rest)))

same_ends : (f g x y : List ℕ) → f ++ x ≡ g ++ y → length x ≡ length y → x ≡ y
same_ends f g x y e h =
    let size : length f ≡ length g = omega (arith, ap length e, length-append f x, length-append g y) in
    sym (drop-append_seam f x) ∙ (ap (drop (length f)) e ∙ (ap (λ (n : ℕ). drop n (g ++ y)) size ∙ drop-append_seam g y))

-- Bytes that end in the other name's: the end that is no longer is that name exactly where it has its size.
end_same : (bytes tail other : List ℕ) (ends : Bool) → ((front : List ℕ) × (bytes ≡ front ++ tail)) → ends ≡ pointwise nat_eq other (drop (length bytes - length other) bytes) → ends ≡ true
    → nat_eq (length tail) (length other) ≡ pointwise nat_eq tail other
end_same bytes tail other ends h e t =
    let k = ends_is Decides-eqb bytes other ends e in
    same_from_decides (nat_eq (length tail) (length other)) (pointwise nat_eq tail other)
    ((λ u. same_ends h.0 (take (length bytes - length other) bytes) tail other (sym h.1 ∙ k.0 t) (eqb-true (length tail) (length other) u)), (λ s. eq-eqb (length tail) (length other) (ap length s)))
    (bytes_decides tail other)

pub under_end_size : (bytes tail other : List ℕ) (ends : Bool) → ((front : List ℕ) × (bytes ≡ front ++ tail)) → ends ≡ pointwise nat_eq other (drop (length bytes - length other) bytes) → ends ≡ true
    → IsWire tail → IsWire other → length tail ≤ length other → is_under (labels_of bytes) (labels_of other) ≡ is_under (labels_of tail) (labels_of other)
    → nat_eq (length tail) (length other) ≡ is_under (labels_of bytes) (labels_of other)
under_end_size bytes tail other ends h e t ht ho le eu =
    under_bytes tail other (labels_of bytes) (nat_eq (length tail) (length other)) ht ho le eu (end_same bytes tail other ends h e t)

-- A name beneath another ends in its bytes.
under_ends : (bytes other : List ℕ) → IsWire bytes → IsWire other → IsAtOrUnder (labels_of bytes) (labels_of other) → (front : List ℕ) × (bytes ≡ front ++ other)
under_ends bytes other hb ho u =
    (wire u.0, sym hb.bytes ∙ (ap wire u.1 ∙ (wire-append u.0 (labels_of other) ∙ ap (λ (x : List ℕ). wire u.0 ++ x) ho.bytes)))

false_both : (x y : Bool) → x ≡ false → (y ≡ true → x ≡ true) → x ≡ y
false_both x true f h = h refl
false_both x false f h = f

pub no_end : (bytes other : List ℕ) (ends : Bool) → IsWire bytes → IsWire other → ends ≡ pointwise nat_eq other (drop (length bytes - length other) bytes) → ends ≡ false
    → ends ≡ is_under (labels_of bytes) (labels_of other)
no_end bytes other ends hb ho e f =
    false_both ends (is_under (labels_of bytes) (labels_of other)) f
    (λ t. let u = under_ends bytes other hb ho (under_is (labels_of bytes) (labels_of other) t) in (ends_is Decides-eqb bytes other ends e).1 u.0 u.1)

-- What the test's answer says.
pub relation_of : (a b : List (List ℕ)) (same : Bool) → same ≡ is_under a b → (IsTrue same → IsAtOrUnder a b) × (IsAtOrUnder a b → IsTrue same)
relation_of a b same e = (λ t. under_is a b (sym e ∙ t), λ u. e ∙ is_under_holds a b u)
