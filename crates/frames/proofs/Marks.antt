-- Names whose look-up failed: what a mark leaves, and what a test of them says.
use Rattle.std.proofs.Common.{◌≡◌, ℕ, ◌≤◌, min, Bool, true, false, cond, ◌⊎◌, inl, inr, nat_le, Option, Some, None, List, [], ◌∷◌, Contains, refl, sym, ap, ◌∙◌, subst, arith}
use Rattle.std.specs.declared.cmp.Ordering.{Ordering}
use Rattle.std.specs.declared.cmp.Ordering.TheVariants.{Less, Equal, Greater}
use Rattle.std.specs.Ordering.{is_eq, match_ordering}
use Rattle.std.specs.Map.{lookup}
use Rattle.std.specs.BTreeMap.{is_at, insert_entry}
use Rattle.std.proofs.lemmas.Bool.{leb-true, leb-false}
use Rattle.lru.proofs.Splits.{Contains-head, Contains-tail, Contains-cons, Contains-nil}
use Rattle.dname.specs.Labels.{Name, same_name}
use Rattle.dname.specs.Laws.{same_name-exact}
use Rattle.dname.specs.Order.{name_cmp, name_cmp_ties}
use Rattle.frames.specs.Frames.{Failed, least_failed, least_of, marked, is_within, has_failed, HasFailed}
use Rattle.frames.proofs.Members.{by_test, first_of, second_of}

-- Names that are equal in the order are one.
tied : (n m : Name) → is_eq (name_cmp n m) ≡ true → n ≡ m
tied n m e = same_name-exact n m (name_cmp_ties n m ∙ e)

-- The least nesting of a name stands among the marks.
pub least_there : (fs : Failed) (n : Name) (d : ℕ) → least_failed fs n ≡ Some d → Contains fs (n, d)
least_there [] n d e = absurd (cc)
least_there (f ∷ fs) n d e = by_test (is_eq (name_cmp n f.0))
    (λ t. here t (sym (first_of (Some f.1) (lookup (is_at (name_cmp n)) fs) t) ∙ e))
    (λ t. Contains-tail f fs (n, d) (least_there fs n d (sym (second_of (Some f.1) (lookup (is_at (name_cmp n)) fs) t) ∙ e)))
  where
    here : is_eq (name_cmp n f.0) ≡ true → Some f.1 ≡ Some d → Contains (f ∷ fs) (n, d)
    here t s =
        let name : n ≡ f.0 = tied n f.0 t in
        let depth : f.1 ≡ d = cc in
        subst (λ (m : Name). Contains (f ∷ fs) (m, d)) (sym name) (subst (λ (k : ℕ). Contains (f ∷ fs) (f.0, k)) depth (Contains-head f fs))

-- What is put is new, or was there.
put_only : (fs : Failed) (n : Name) (d : ℕ) (x : Name × ℕ) → Contains (insert_entry name_cmp fs n d) x → Contains fs x ⊎ (x ≡ (n, d))
put_only [] n d x c = elim (Contains-cons (n, d) [] x c) [ inl e ↦ inr (sym e) | inr h ↦ inl h ]
put_only (f ∷ fs) n d x c = by (name_cmp n f.0) refl (λ h. put_only fs n d x h) c
  where
    by : (o : Ordering) → name_cmp n f.0 ≡ o → (Contains (insert_entry name_cmp fs n d) x → Contains fs x ⊎ (x ≡ (n, d)))
        → Contains (match_ordering o ((n, d) ∷ f ∷ fs) ((f.0, d) ∷ fs) (f ∷ insert_entry name_cmp fs n d)) x → Contains (f ∷ fs) x ⊎ (x ≡ (n, d))
    by Less e more c = elim (Contains-cons (n, d) (f ∷ fs) x c) [ inl s ↦ inr (sym s) | inr h ↦ inl h ]
    by Equal e more c =
        let name : n ≡ f.0 = tied n f.0 (ap is_eq e) in
        elim (Contains-cons (f.0, d) fs x c) [ inl s ↦ inr (sym s ∙ ap (λ (m : Name). (m, d)) (sym name)) | inr h ↦ inl (Contains-tail f fs x h) ]
    by Greater e more c = elim (Contains-cons f (insert_entry name_cmp fs n d) x c) [
      | inl s ↦ inl (subst (Contains (f ∷ fs)) s (Contains-head f fs))
      | inr h ↦ elim (more h) [ inl t ↦ inl (Contains-tail f fs x t) | inr is ↦ inr is ]
    ]

least_is : (d : ℕ) (o : Option ℕ) → (least_of d o ≡ d) ⊎ (o ≡ Some (least_of d o))
least_is d None = inl refl
least_is d (Some least) = by (nat_le d least) refl
  where
    by : (b : Bool) → nat_le d least ≡ b → (min d least ≡ d) ⊎ (Some least ≡ Some (min d least))
    by true e = inl (omega (arith, leb-true d least e))
    by false e = inr (ap Some (omega (arith, leb-false d least e)))

-- A mark adds the name at its nesting, or nothing.
pub marked_only : (fs : Failed) (n : Name) (d : ℕ) (x : Name × ℕ) → Contains (marked fs n d) x → Contains fs x ⊎ (x ≡ (n, d))
marked_only fs n d x c = elim (put_only fs n (least_of d (least_failed fs n)) x c) [
  | inl h ↦ inl h
  | inr is ↦ elim (least_is d (least_failed fs n)) [
    | inl e ↦ inr (is ∙ ap (λ (k : ℕ). (n, k)) e)
    | inr e ↦ inl (subst (Contains fs) (sym is) (least_there fs n (least_of d (least_failed fs n)) e))
  ]
]

-- A name of which the test says so is marked.
pub has_failed_is : (fs : Failed) (n : Name) (nesting : ℕ) → has_failed fs n nesting ≡ true → HasFailed fs n nesting
has_failed_is fs n nesting h = by (least_failed fs n) refl h
  where
    by : (o : Option ℕ) → least_failed fs n ≡ o → is_within nesting o ≡ true → HasFailed fs n nesting
    by None e t = absurd (cc)
    by (Some least) e t = (least, least_there fs n least e, leb-true least nesting t)
