-- The table of notes made the one without notes: each size of a note is set back, and no other one is noted.
use Rattle.std.proofs.Common.{◌≡◌, ◌∙◌, ◌⊎◌, refl, ℕ, zero, suc, ◌+◌, ◌-◌, ◌<◌, ◌≤◌, List, [], length, set, sym, ap, subst, arith, inl, inr, get_or}
use Rattle.std.proofs.lemmas.Bool.{cases_lt}
use Rattle.std.proofs.lemmas.Bool.Decides.{eqb_tells}
use Rattle.std.proofs.lemmas.Grind.{get_or-set_at}
use Rattle.std.proofs.lemmas.List.{get_or-map, get_or-set_other, length-set}
use Rattle.std.proofs.Math.ListN.{get_or-eq_default}
use Rattle.std.specs.Prelude.{slice_index}
use Rattle.suffixes.specs.declared.earlier.Noted.{Noted}
use Rattle.suffixes.specs.Kept.{size_at}
use Rattle.suffixes.specs.Branches.{AreFirsts, ArePut}
use Rattle.suffixes.proofs.Links.{empty_put}

-- The sizes of the first `count` notes are set back, and the others stand as they were.
pub record AreUnlinked (notes : List Noted) (old ends : List ℕ) (count : ℕ) : Type 0 where
  pub sizes : length ends ≡ 256
  pub either : (z : ℕ) → (slice_index ends z ≡ 0) ⊎ (slice_index ends z ≡ slice_index old z)
  pub gone : (k : ℕ) → k < count → size_at notes k < 256 → slice_index ends (size_at notes k) ≡ 0

pub none_unlinked : (notes : List Noted) (ends : List ℕ) → AreFirsts notes ends → AreUnlinked notes ends ends 0
none_unlinked notes ends h = record {
  sizes = h.sizes;
  either = λ z. inr refl;
  gone = λ k less small. absurd (omega arith);
}

-- The size of a note that is read at an index.
abbrev pub read_at : List Noted → ℕ → ℕ
read_at notes k = (get_or notes k (record { start = 0; size = 0; place = 0; next = [] })).size

pub size_is : (notes : List Noted) (k : ℕ) → k < length notes → size_at notes k ≡ read_at notes k
size_is notes k less = get_or-map (λ (n : Noted). n.size) notes k (record { start = 0; size = 0; place = 0; next = [] }) 0 less

set_back : (ends : List ℕ) (size z : ℕ) → size < length ends → (z ≡ size) ⊎ (slice_index ends z ≡ 0) → slice_index (set ends size 0) z ≡ 0
set_back ends size z less (inl same) = get_or-set_at ends size z 0 0 same less
set_back ends size z less (inr none) = elim (eqb_tells z size) [
  | inl same ↦ get_or-set_at ends size z 0 0 same.1 less
  | inr other ↦ get_or-set_other ends size z 0 0 other.1 ∙ none
]

pub one_unlinked : (notes : List Noted) (old ends : List ℕ) (k size : ℕ) → AreUnlinked notes old ends k → size_at notes k ≡ size → size < 256 → AreUnlinked notes old (set ends size 0) (k + 1)
one_unlinked notes old ends k size h is small =
    let all = h.sizes in
    let inside : size < length ends = omega arith in
    record {
      sizes = length-set ends size 0 ∙ h.sizes;
      either = λ z. elim (eqb_tells z size) [
        | inl same ↦ inl (get_or-set_at ends size z 0 0 same.1 inside)
        | inr other ↦ (let stays : slice_index (set ends size 0) z ≡ slice_index ends z = get_or-set_other ends size z 0 0 other.1 in elim (h.either z) [
          | inl none ↦ inl (stays ∙ none)
          | inr same ↦ inr (stays ∙ same)
        ])
      ];
      gone = λ j less few. elim (cases_lt j k) [
        | inl before ↦ set_back ends size (size_at notes j) inside (inr (h.gone j before few))
        | inr most ↦ (let at : j ≡ k = omega arith in set_back ends size (size_at notes j) inside (inl (ap (size_at notes) at ∙ is)))
      ];
    }

-- A note whose size the table does not have.
pub one_passed : (notes : List Noted) (old ends : List ℕ) (k size : ℕ) → AreUnlinked notes old ends k → size_at notes k ≡ size → 256 ≤ size → AreUnlinked notes old ends (k + 1)
one_passed notes old ends k size h is large = record {
  sizes = h.sizes;
  either = h.either;
  gone = λ j less few. elim (cases_lt j k) [
    | inl before ↦ h.gone j before few
    | inr most ↦ (let at : j ≡ k = omega arith in let same : size_at notes j ≡ size = ap (size_at notes) at ∙ is in absurd (omega arith))
  ];
}

unlinked_at : (notes : List Noted) (old ends : List ℕ) (z first : ℕ) → AreFirsts notes old → AreUnlinked notes old ends (length notes) → z < 256 → slice_index old z ≡ first → slice_index ends z ≡ first
    → slice_index ends z ≡ 0
unlinked_at notes old ends z zero table h small was is = is
unlinked_at notes old ends z (suc n) table h small was is =
    let within = table.within z in
    let e : slice_index old z - 1 ≡ n = omega arith in
    let last : size_at notes n ≡ z = ap (size_at notes) (sym e) ∙ table.has z (omega arith) in
    ap (slice_index ends) (sym last) ∙ h.gone n (omega arith) (omega arith)

pub all_unlinked : (notes : List Noted) (old ends : List ℕ) → AreFirsts notes old → AreUnlinked notes old ends (length notes) → ArePut [] [] ends
all_unlinked notes old ends table h = empty_put ends h.sizes none_left
  where
    none_left : (z : ℕ) → slice_index ends z ≡ 0
    none_left z = elim (cases_lt z 256) [
      | inl small ↦ elim (h.either z) [
        | inl none ↦ none
        | inr same ↦ unlinked_at notes old ends z (slice_index old z) table h small refl same
      ]
      | inr large ↦ get_or-eq_default ends 0 (let s = h.sizes in omega arith)
    ]
