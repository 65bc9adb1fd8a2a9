-- The way up from a name.
use Rattle.std.proofs.Common.{◌≡◌, ℕ, zero, suc, ◌+◌, ◌<◌, Bool, true, false, Some, List, [], ◌∷◌, length, drop, sym, ap, ◌∙◌, arith}
use Rattle.std.specs.Bool.{OnTrue, OnFalse}
use Rattle.dname.specs.Labels.{root, parent_of}
use Rattle.server.specs.Domains.{above}

-- What a walk stands at after so many labels of a name.
pub record IsPassed (k : ℕ) (name at : List (List ℕ)) : Type 0 where
  pub is : at ≡ drop k name
  pub left : k + length at ≡ length name

one_less : (k : ℕ) (name : List (List ℕ)) (l : List ℕ) (ls : List (List ℕ)) → drop k name ≡ l ∷ ls → drop (k + 1) name ≡ ls
one_less zero [] l ls e = cc
one_less zero (m ∷ ms) l ls e = cc
one_less (suc k) [] l ls e = cc
one_less (suc k) (m ∷ ms) l ls e = let n : suc k + 1 ≡ suc (k + 1) = omega arith in ap (λ j. drop j (m ∷ ms)) n ∙ one_less k ms l ls e

-- One step up, where one is there.
pub one_passed : (went : Bool) (k count : ℕ) (name old new : List (List ℕ)) → OnTrue went (parent_of old ≡ Some new) → OnFalse went ((old ≡ root) × (new ≡ old))
    → IsPassed k name old → k < count → count + 2 < length name → IsPassed (k + 1) name new
one_passed false k count name old new up top h before few = let n : length old ≡ 1 = ap length top.0 in absurd (omega (arith, n, h.left, before, few))
one_passed true k count name [] new up top h before few = absurd (omega (arith, h.left, before, few))
one_passed true k count name (l ∷ []) new up top h before few = let n : k + 1 ≡ length name = h.left in absurd (omega (arith, n, before, few))
one_passed true k count name (l ∷ m ∷ ls) new up top h before few =
    let e : m ∷ ls ≡ new = cc in
    record {
      is = sym e ∙ sym (one_less k name l (m ∷ ls) (sym h.is));
      left = let n : length new ≡ suc (length ls) = sym (ap length e) in let j : k + suc (suc (length ls)) ≡ length name = h.left in omega (arith, n, j);
    }

pub length_above : (name : List (List ℕ)) (n : ℕ) → length name ≡ n + 2 → length (above name) ≡ n + 1
length_above [] n e = absurd (omega (arith, e))
length_above (l ∷ []) n e = absurd (omega (arith, e))
length_above (l ∷ m ∷ ls) n e = let h : suc (suc (length ls)) ≡ n + 2 = e in let g : suc (length ls) ≡ n + 1 = omega (arith, h) in g
