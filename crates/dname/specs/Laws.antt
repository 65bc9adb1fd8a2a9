-- Laws of names' equality, hash and order, and of their wire form.
use Rattle.std.specs.Prelude.{◌≡◌, ℕ, true, List, [], ◌∷◌, ◌++◌, length}
use Rattle.std.proofs.Common.{refl, sym, ◌∙◌, ap}
use Rattle.std.proofs.Math.Seq.{take-append_seam}
use Rattle.std.specs.Cmp.{IsPartialEquivalence, IsEquivalence, partial_equiv_from_equiv, on_equiv}
use Rattle.std.specs.Cmp.Lexicographic.{bytes_decides, nat_list_eq_equiv}
use Rattle.std.specs.Hash.{HashWrites}
use Rattle.dname.specs.Labels.{wire, same_name}
use Rattle.dname.specs.Wire.{labels_after, labels_of}

labels_after-skip : (l r : List ℕ) → labels_after (length l) (l ++ r) ≡ labels_after 0 r
labels_after-skip [] r = refl
labels_after-skip (b ∷ l) r = labels_after-skip l r

-- The labels of a wire form are those that were written: no two lists of labels have one wire form.
pub labels_of-wire : (ls : List (List ℕ)) → labels_of (wire ls) ≡ ls
labels_of-wire [] = refl
labels_of-wire (l ∷ ls) = λ i. take-append_seam l (wire ls) i ∷ (labels_after-skip l (wire ls) ∙ labels_of-wire ls) i

pub wire-injective : (a b : List (List ℕ)) → wire a ≡ wire b → a ≡ b
wire-injective a b e = sym (labels_of-wire a) ∙ (ap labels_of e ∙ labels_of-wire b)

pub same_name-exact : (a b : List (List ℕ)) → same_name a b ≡ true → a ≡ b
same_name-exact a b e = wire-injective a b ((bytes_decides (wire a) (wire b)).0 e)

pub same_name-equal : (a b : List (List ℕ)) → a ≡ b → same_name a b ≡ true
same_name-equal a b e = (bytes_decides (wire a) (wire b)).1 (ap wire e)

pub same_name-refl : (a : List (List ℕ)) → same_name a a ≡ true
same_name-refl a = same_name-equal a a refl

pub same_name_equiv : IsEquivalence same_name
same_name_equiv = on_equiv wire nat_list_eq_equiv

pub same_name_per : IsPartialEquivalence same_name
same_name_per = partial_equiv_from_equiv same_name_equiv

-- A name goes to a hasher as its wire form, in one piece.
abbrev pub fed_name : List (List ℕ) → HashWrites
fed_name n = wire n ∷ []

pub same_name_fed : (a b : List (List ℕ)) → same_name a b ≡ true → fed_name a ≡ fed_name b
same_name_fed a b h = ap fed_name (same_name-exact a b h)
