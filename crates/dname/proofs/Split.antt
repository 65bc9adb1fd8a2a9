-- The first label of a name in wire form, and what stands behind it.
use Rattle.std.proofs.Common.{◌≡◌, ℕ, ◌+◌, ◌<◌, ◌≤◌, List, [], ◌∷◌, ◌++◌, length, take, drop, get_or, Some, suc, ◌-◌, refl, sym, ◌∙◌, ap, subst, arith, length-append}
use Rattle.std.proofs.Math.Seq.{take-append_seam, drop-append_seam, take-length, paste}
use Rattle.dname.specs.Labels.{wire, root, before_root, AreLabels, IsLabel, parent_of}
use Rattle.dname.specs.Wire.{labels_of, IsWire, IsSplit, IsNameWire}
use Rattle.dname.specs.Laws.{labels_of-wire}

-- The wire form of labels that end in the root's is such a form.
pub wire_is : (ls : List (List ℕ)) → AreLabels ls → IsWire (wire ls)
wire_is ls h = record {
  labels = subst (λ (n : List (List ℕ)). AreLabels n) (sym (labels_of-wire ls)) h;
  bytes = ap wire (labels_of-wire ls);
}

abbrev pub label_at : List ℕ → List ℕ
label_at bs = take (get_or bs 0 0) (drop 1 bs)

abbrev pub behind : List ℕ → List ℕ
behind bs = drop (get_or bs 0 0) (drop 1 bs)

-- Some byte stands there; where it is zero the name is the root, else a label stands.
pub record Split (bs : List ℕ) : Type 0 where
  pub some : 0 < length bs
  pub ends : get_or bs 0 0 ≡ 0 → labels_of bs ≡ root
  pub fits : get_or bs 0 0 ≤ length (drop 1 bs)
  pub split : (get_or bs 0 0 ≡ 0 → ⊥) → IsSplit bs (label_at bs) (behind bs)

label_splits : (l : List ℕ) (w : List ℕ) (ls : List (List ℕ)) → IsLabel l → IsWire w → labels_of w ≡ ls → labels_of (length l ∷ (l ++ w)) ≡ l ∷ ls
    → IsSplit (length l ∷ (l ++ w)) (take (length l) (l ++ w)) (drop (length l) (l ++ w))
label_splits l w ls h hw e all =
    subst (λ (x : List ℕ). IsSplit (length l ∷ (l ++ w)) x (drop (length l) (l ++ w))) (sym (take-append_seam l w))
    (subst (λ (x : List ℕ). IsSplit (length l ∷ (l ++ w)) l x) (sym (drop-append_seam l w))
    (record { wire = hw; labels = all ∙ ap (λ (x : List (List ℕ)). l ∷ x) (sym e); nonempty = h.nonempty; short = h.short; bytes = refl; size = omega (arith, length-append l w) }))

by_labels : (ls : List (List ℕ)) → AreLabels ls → Split (wire ls)
by_labels [] h = absurd h
by_labels (l ∷ []) h = subst (λ (x : List ℕ). Split (wire (x ∷ []))) (sym h) (record { some = omega arith; ends = λ _. refl; fits = omega arith; split = λ n. absurd (n refl) })
by_labels (l ∷ m ∷ ls) h = record {
  some = omega arith;
  ends = λ e. absurd (let p : 0 < length l = h.0.nonempty in omega arith);
  fits = omega (arith, length-append l (wire (m ∷ ls)));
  split = λ _. label_splits l (wire (m ∷ ls)) (m ∷ ls) h.0 (wire_is (m ∷ ls) h.1) (labels_of-wire (m ∷ ls)) (labels_of-wire (l ∷ m ∷ ls));
}

pub split_of : (bs : List ℕ) → IsWire bs → Split bs
split_of bs h = subst (λ (x : List ℕ). Split x) h.bytes (by_labels (labels_of bs) h.labels)

-- The same of a size, a rest and two parts that are those.
pub split_by_size : (bs rest label after : List ℕ) (s : ℕ) → IsWire bs → s ≡ get_or bs 0 0 → (s ≡ 0 → ⊥) → rest ≡ drop 1 bs → label ≡ take s rest → after ≡ drop s rest → IsSplit bs label after
split_by_size bs rest label after s h e n er el ea =
    let la : label_at bs ≡ label = cc in
    let be : behind bs ≡ after = cc in
    subst (λ (x : List ℕ). IsSplit bs x after) la
    (subst (λ (x : List ℕ). IsSplit bs (label_at bs) x) be ((split_of bs h).split (λ z. n (e ∙ z))))

open_front : (label rest : List ℕ) (n : ℕ) → n ≡ length label → drop (suc n) (length label ∷ (label ++ rest)) ≡ rest
open_front label rest n e = subst (λ (k : ℕ). drop k (label ++ rest) ≡ rest) (sym e) (drop-append_seam label rest)

pasted_front : (bs rest : List ℕ) → take (length rest) (paste bs 0 rest (length rest)) ≡ rest
pasted_front bs rest = rw take-length (take-append_seam rest (drop (0 + length rest) bs))

-- What stands behind the first label is the end of as many bytes.
pub last_front : (bs label rest items : List ℕ) (left : ℕ) → bs ≡ length label ∷ (label ++ rest) → left ≡ length rest → items ≡ drop (length bs - left) bs → items ≡ rest
last_front bs label rest items left e el ei =
    let at : length bs - left ≡ suc (length label) = omega (arith, ap length e, length-append label rest) in
    ei ∙ subst (λ (k : ℕ). drop k bs ≡ rest) (sym at) (subst (λ (x : List ℕ). drop (suc (length label)) x ≡ rest) (sym e) (open_front label rest (length label) refl))

parent_is : (l : List ℕ) (ls : List (List ℕ)) → AreLabels ls → parent_of (l ∷ ls) ≡ Some ls
parent_is l [] h = absurd h
parent_is l (m ∷ ls) h = refl

-- The name above is what stands behind the first label.
pub ascended : (bs label rest items : List ℕ) → IsNameWire bs → IsSplit bs label rest → items ≡ rest → IsNameWire items
ascended bs label rest items h s e =
    subst (λ (x : List ℕ). IsNameWire x) (sym e) (record { wire = s.wire; short = let a = h.short in let b = s.size in omega arith })

pub ascended_parent : (bs label rest items : List ℕ) → IsSplit bs label rest → items ≡ rest → parent_of (labels_of bs) ≡ Some (labels_of items)
ascended_parent bs label rest items s e =
    ap parent_of s.labels ∙ (parent_is label (labels_of rest) s.wire.labels ∙ ap (λ (x : List ℕ). Some (labels_of x)) (sym e))

before_root_more : (l : List ℕ) (ls : List (List ℕ)) → AreLabels ls → before_root (l ∷ ls) ≡ l ∷ before_root ls
before_root_more l [] h = absurd h
before_root_more l (m ∷ ls) h = refl

-- The first of the labels before the root's, and those that follow it.
pub labels_split : (bs label rest : List ℕ) → IsSplit bs label rest → before_root (labels_of bs) ≡ label ∷ before_root (labels_of rest)
labels_split bs label rest s = ap before_root s.labels ∙ before_root_more label (labels_of rest) s.wire.labels

-- What stands behind the first label of a name is a name.
pub rest_is_name : (bs label rest : List ℕ) → IsNameWire bs → IsSplit bs label rest → IsNameWire rest
rest_is_name bs label rest h s = ascended bs label rest rest h s refl
