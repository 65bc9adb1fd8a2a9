-- Words that are known: no two of them are the same, and none is a number.
use Rattle.std.proofs.Common.{◌≡◌, ℕ, ◌<◌, nat_eq, Bool, true, false, ◌||◌, cond, Some, List, [], ◌∷◌, map, refl, ap, ◌∙◌, codes, arith}
use Rattle.std.proofs.lemmas.Bool.Decides.{nat_tests}
use Rattle.std.specs.Cmp.Lexicographic.{pointwise, bytes_decides}
use Rattle.dname.specs.Labels.{folded}
use Rattle.rdata.specs.Types.{type_word}
use Rattle.rdata.specs.declared.rtype.RType.{RType}
use Rattle.rdata.specs.declared.rtype.RType.TheVariants as rtype
use Rattle.decimal.specs.Digits.{is_digit}
use Rattle.masterfile.specs.Numbers.{is_number}
use Rattle.masterfile.specs.Fields.{same_word, find_type, type_named, served_types}
use Rattle.masterfile.specs.Entries.{is_internet, is_foreign_class, begins_directive}

-- the same but for case
same_is : (a b : List ℕ) → same_word a b ≡ true → map folded a ≡ map folded b
same_is a b e = (bytes_decides (map folded a) (map folded b)).0 e

abbrev first_of : List ℕ → ℕ
first_of [] = 0
first_of (c ∷ cs) = c

not_digit_by : (c f : ℕ) → folded c ≡ f → 57 < f → is_digit c ≡ false
not_digit_by c f e h = grind (arith, nat_tests)

-- a word that begins as one that begins with a letter is no number
no_number : (w : List ℕ) (f : ℕ) (fs : List ℕ) → map folded w ≡ f ∷ fs → 57 < f → is_number w ≡ false
no_number [] f fs e h = cc
no_number (c ∷ cs) f fs e h =
    let p : folded c ≡ f = ap first_of e in
    rw (not_digit_by c f p h) refl

dollar_by : (c : ℕ) → folded c ≡ 36 → begins_directive (c ∷ []) ≡ true
dollar_by c e = grind (arith, nat_tests)

pub dollar : (w fs : List ℕ) → map folded w ≡ 36 ∷ fs → begins_directive w ≡ true
dollar [] fs e = cc
dollar (c ∷ cs) fs e = dollar_by c (ap first_of e)

-- a word that is the same as another compares as it does
compares : (w u v : List ℕ) → map folded w ≡ map folded u → same_word w v ≡ same_word u v
compares w u v e = ap (λ (x : List ℕ). pointwise nat_eq x (map folded v)) e

pub class_no_number : (w : List ℕ) → is_internet w ≡ true → is_number w ≡ false
class_no_number w e = no_number w 105 (110 ∷ []) (same_is w (codes "IN") e) (omega arith)

pub origin_directive : (w : List ℕ) → same_word w (codes "$ORIGIN") ≡ true → begins_directive w ≡ true
origin_directive w e = dollar w (111 ∷ 114 ∷ 105 ∷ 103 ∷ 105 ∷ 110 ∷ []) (same_is w (codes "$ORIGIN") e)

pub ttl_directive : (w : List ℕ) → same_word w (codes "$TTL") ≡ true → begins_directive w ≡ true
ttl_directive w e = dollar w (116 ∷ 116 ∷ 108 ∷ []) (same_is w (codes "$TTL") e)

pub ttl_no_origin : (w : List ℕ) → same_word w (codes "$TTL") ≡ true → same_word w (codes "$ORIGIN") ≡ false
ttl_no_origin w e = compares w (codes "$TTL") (codes "$ORIGIN") (same_is w (codes "$TTL") e)

found_by : (w : List ℕ) (t u : RType) (ts : List RType) (b : Bool) → same_word w (type_word u) ≡ b → cond b (Some u) (find_type w ts) ≡ Some t
    → (find_type w ts ≡ Some t → same_word w (type_word t) ≡ true) → same_word w (type_word t) ≡ true
found_by w t u ts true k e go = let p : u ≡ t = cc in rw (← p) k
found_by w t u ts false k e go = go e

found_is : (w : List ℕ) (t : RType) (ts : List RType) → find_type w ts ≡ Some t → same_word w (type_word t) ≡ true
found_is w t [] e = cc
found_is w t (u ∷ ts) e = found_by w t u ts (same_word w (type_word u)) refl e (λ k. found_is w t ts k)

type_is_word : (w : List ℕ) (t : RType) → type_named w ≡ Some t → map folded w ≡ map folded (type_word t)
unfolding type_named
type_is_word w t e = same_is w (type_word t) (found_is w t served_types e)

-- no type's word is a class's
internet_no_type : (t : RType) → is_internet (type_word t) ≡ false
internet_no_type rtype.A = refl
internet_no_type rtype.Ns = refl
internet_no_type rtype.Cname = refl
internet_no_type rtype.Soa = refl
internet_no_type rtype.Ptr = refl
internet_no_type rtype.Mx = refl
internet_no_type rtype.Txt = refl
internet_no_type rtype.Aaaa = refl
internet_no_type rtype.Srv = refl

class_no_type : (t : RType) → is_foreign_class (type_word t) ≡ false
class_no_type rtype.A = refl
class_no_type rtype.Ns = refl
class_no_type rtype.Cname = refl
class_no_type rtype.Soa = refl
class_no_type rtype.Ptr = refl
class_no_type rtype.Mx = refl
class_no_type rtype.Txt = refl
class_no_type rtype.Aaaa = refl
class_no_type rtype.Srv = refl

pub type_no_internet : (w : List ℕ) (t : RType) → type_named w ≡ Some t → is_internet w ≡ false
type_no_internet w t e = compares w (type_word t) (codes "IN") (type_is_word w t e) ∙ internet_no_type t

foreign_compares : (w u : List ℕ) → map folded w ≡ map folded u → is_foreign_class w ≡ is_foreign_class u
foreign_compares w u e =
    ap (λ (x : List ℕ). pointwise nat_eq x (map folded (codes "CS")) || pointwise nat_eq x (map folded (codes "CH")) || pointwise nat_eq x (map folded (codes "HS"))) e

pub type_no_class : (w : List ℕ) (t : RType) → type_named w ≡ Some t → is_foreign_class w ≡ false
type_no_class w t e = foreign_compares w (type_word t) (type_is_word w t e) ∙ class_no_type t

letter : (w : List ℕ) (t : RType) → map folded w ≡ map folded (type_word t) → is_number w ≡ false
letter w rtype.A e = no_number w 97 _ e (omega arith)
letter w rtype.Ns e = no_number w 110 _ e (omega arith)
letter w rtype.Cname e = no_number w 99 _ e (omega arith)
letter w rtype.Soa e = no_number w 115 _ e (omega arith)
letter w rtype.Ptr e = no_number w 112 _ e (omega arith)
letter w rtype.Mx e = no_number w 109 _ e (omega arith)
letter w rtype.Txt e = no_number w 116 _ e (omega arith)
letter w rtype.Aaaa e = no_number w 97 _ e (omega arith)
letter w rtype.Srv e = no_number w 115 _ e (omega arith)

pub type_no_number : (w : List ℕ) (t : RType) → type_named w ≡ Some t → is_number w ≡ false
type_no_number w t e = letter w t (type_is_word w t e)
