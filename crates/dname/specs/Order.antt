-- The order of names (RFC 4034, section 6.1): their labels compared from the root on, each by its bytes, so that a name
-- comes before all beneath it.
use Rattle.std.specs.Prelude.{◌≡◌, ℕ, List, nat_eq, reverse}
use Rattle.std.proofs.Common.{refl, sym, ◌∙◌, ap}
use Rattle.std.proofs.lemmas.List.{reverse-reverse}
use Rattle.std.proofs.lemmas.Bool.Decides.{same_from_decides}
use Rattle.std.specs.declared.cmp.Ordering.{Ordering}
use Rattle.std.specs.Bool.{Decides}
use Rattle.std.specs.Ordering.{nat_cmp, eq_by_cmp, as_partial_cmp}
use Rattle.std.specs.Cmp.{IsTotalOrder, IsPartialOrder, on_total, unsigned_ties, partial_order_from_agreeing_total}
use Rattle.std.specs.Cmp.Lexicographic.{pointwise, slice_cmp, nat_list_cmp_total, lists_total, lists_ties, pointwise_decides, bytes_decides}
use Rattle.dname.specs.Labels.{same_name}
use Rattle.dname.specs.Laws.{same_name-exact, same_name-equal}

abbrev pub label_cmp : List ℕ → List ℕ → Ordering
label_cmp a b = slice_cmp nat_cmp a b

abbrev pub name_cmp : List (List ℕ) → List (List ℕ) → Ordering
name_cmp a b = slice_cmp label_cmp (reverse a) (reverse b)

pub name_cmp_total : IsTotalOrder name_cmp
name_cmp_total = on_total reverse (lists_total nat_list_cmp_total)

reversed_alike : (a b : List (List ℕ)) → Decides (pointwise (pointwise nat_eq) (reverse a) (reverse b)) (a ≡ b)
reversed_alike a b =
    let d = pointwise_decides {E = pointwise nat_eq} bytes_decides (reverse a) (reverse b) in
    (λ t. sym (reverse-reverse a) ∙ (ap reverse (d.0 t) ∙ reverse-reverse b), λ e. d.1 (ap reverse e))

-- Two names of which none comes before the other are one name.
pub name_cmp_ties : (a b : List (List ℕ)) → same_name a b ≡ eq_by_cmp name_cmp a b
name_cmp_ties a b =
    same_from_decides (same_name a b) (pointwise (pointwise nat_eq) (reverse a) (reverse b)) (same_name-exact a b, same_name-equal a b) (reversed_alike a b)
    ∙ lists_ties label_cmp (lists_ties nat_cmp unsigned_ties) (reverse a) (reverse b)

pub name_cmp_partial : IsPartialOrder same_name (as_partial_cmp name_cmp)
name_cmp_partial = partial_order_from_agreeing_total name_cmp name_cmp_total (λ _ _. refl) name_cmp_ties
