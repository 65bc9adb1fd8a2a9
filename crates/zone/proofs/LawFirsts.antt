-- What a set without repeats has: of each record one that the test finds the same, and no other.
use Rattle.std.proofs.Common.{◌≡◌, ◌≢◌, ◌⊎◌, inl, inr, ⊎_elim, Bool, true, ◌&&◌, cond, List, [], ◌∷◌, ◌++◌, sym, ◌∙◌, ap, subst}
use Rattle.std.specs.Prelude.{Contains, fold}
use Rattle.std.specs.List.{list_any}
use Rattle.std.proofs.lemmas.Bool.{cond_both, both_ways, and_parts, and_from}
use Rattle.std.proofs.lemmas.List.Elements.{Contains-append_left, Contains-push, Contains-push_cases}
use Rattle.dname.specs.Labels.{same_name}
use Rattle.dname.specs.Laws.{same_name-exact, same_name-refl}
use Rattle.rdata.specs.Data.{same_data}
use Rattle.rdata.specs.Records.{Record}
use Rattle.rdata.proofs.Exact.{same_data-exact, same_data-refl}
use Rattle.zone.specs.Links.{Distinct}
use Rattle.zone.specs.Look.{firsts, add_glue}
use Rattle.zone.proofs.LawLists.{none_in, first_in, later_in, in_cases, any_of, any_from}

distinct_push : (xs : List Record) (x : Record) → Distinct xs → (Contains xs x → ⊥) → Distinct (xs ++ x ∷ [])
distinct_push [] x d n = (λ h. none_in x h, tt)
distinct_push (y ∷ xs) x d n = (
  λ h. ⊎_elim (λ k. d.0 k) (λ e. n (subst (λ (w : Record). Contains (y ∷ xs) w) (sym e) (first_in y xs))) (Contains-push_cases xs x y h),
  distinct_push xs x d.1 (λ h. n (later_in y x xs h)),
)

-- Kept unless one that is the same is there.
abbrev keeping : (Record → Record → Bool) → List Record → Record → List Record
keeping same kept r = cond (list_any (λ (s : Record). same s r) kept) kept (kept ++ r ∷ [])

-- One that is the same stands there.
abbrev HasLike : (Record → Record → Bool) → Record → List Record → Type 0
HasLike same r ys = (y : Record) × Contains ys y × (same y r ≡ true)

module _ (same : Record → Record → Bool) (itself : (r : Record) → same r r ≡ true) where
  add_keeps : (kept : List Record) (r x : Record) → Contains kept x → Contains (keeping same kept r) x
  add_keeps kept r x h = cond_both (list_any (λ (s : Record). same s r) kept) kept (kept ++ r ∷ []) (λ (ys : List Record). Contains ys x) (λ e. h) (λ e. Contains-append_left kept (r ∷ []) x h)

  add_cases : (kept : List Record) (r x : Record) → Contains (keeping same kept r) x → Contains kept x ⊎ (r ≡ x)
  add_cases kept r x = cond_both (list_any (λ (s : Record). same s r) kept) kept (kept ++ r ∷ []) (λ (ys : List Record). Contains ys x → Contains kept x ⊎ (r ≡ x)) (λ e h. inl h) (λ e h. Contains-push_cases kept r x h)

  add_has : (kept : List Record) (r : Record) → HasLike same r (keeping same kept r)
  add_has kept r = cond_both (list_any (λ (s : Record). same s r) kept) kept (kept ++ r ∷ []) (HasLike same r)
      (λ e. any_of (λ (s : Record). same s r) kept e)
      (λ e. (r, Contains-push kept r, itself r))

  add_distinct : (kept : List Record) (r : Record) → Distinct kept → Distinct (keeping same kept r)
  add_distinct kept r d = cond_both (list_any (λ (s : Record). same s r) kept) kept (kept ++ r ∷ []) Distinct (λ e. d)
      (λ e. distinct_push kept r d (λ h. both_ways (list_any (λ (s : Record). same s r) kept) e (any_from (λ (s : Record). same s r) kept r h (itself r))))

  fold_keeps : (rs kept : List Record) (x : Record) → Contains kept x → Contains (fold (keeping same) kept rs) x
  fold_keeps [] kept x h = h
  fold_keeps (r ∷ rs) kept x h = fold_keeps rs (keeping same kept r) x (add_keeps kept r x h)

  fold_cases : (rs kept : List Record) (x : Record) → Contains (fold (keeping same) kept rs) x → Contains kept x ⊎ Contains rs x
  fold_cases [] kept x h = inl h
  fold_cases (r ∷ rs) kept x h = ⊎_elim
      (λ k. ⊎_elim (λ m. inl m) (λ e. inr (subst (λ (w : Record). Contains (r ∷ rs) w) e (first_in r rs))) (add_cases kept r x k))
      (λ k. inr (later_in r x rs k))
      (fold_cases rs (keeping same kept r) x h)

  fold_has : (rs kept : List Record) (x : Record) → Contains rs x → HasLike same x (fold (keeping same) kept rs)
  fold_has [] kept x h = absurd (none_in x h)
  fold_has (r ∷ rs) kept x h = ⊎_elim
      (λ e. let m = add_has kept r in (m.0, fold_keeps rs (keeping same kept r) m.0 m.1, ap (same m.0) (sym e) ∙ m.2))
      (λ k. fold_has rs (keeping same kept r) x k)
      (in_cases r x rs h)

  fold_distinct : (rs kept : List Record) → Distinct kept → Distinct (fold (keeping same) kept rs)
  fold_distinct [] kept d = d
  fold_distinct (r ∷ rs) kept d = fold_distinct rs (keeping same kept r) (add_distinct kept r d)

-- By the data alone.
abbrev like : Record → Record → Bool
like s r = same_data s.value r.value

like_itself : (r : Record) → like r r ≡ true
like_itself r = same_data-refl r.value

pub firsts_of : (rs : List Record) (x : Record) → Contains (firsts rs) x → Contains rs x
firsts_of rs x h = ⊎_elim (λ k. absurd (none_in x k)) (λ k. k) (fold_cases like like_itself rs [] x h)

pub firsts_has : (rs : List Record) (x : Record) → Contains rs x → (y : Record) × Contains (firsts rs) y × (y.value ≡ x.value)
firsts_has rs x h = let m = fold_has like like_itself rs [] x h in (m.0, m.1, same_data-exact m.0.value x.value m.2)

pub firsts_distinct : (rs : List Record) → Distinct (firsts rs)
firsts_distinct rs = fold_distinct like like_itself rs [] tt

pub firsts_some : (r : Record) (rs : List Record) → firsts (r ∷ rs) ≢ []
firsts_some r rs e = let m = firsts_has (r ∷ rs) r (first_in r rs) in none_in m.0 (subst (λ (ys : List Record). Contains ys m.0) e m.1)

-- By owner and data.
abbrev alike : Record → Record → Bool
alike s r = same_name s.owner r.owner && same_data s.value r.value

alike_itself : (r : Record) → alike r r ≡ true
alike_itself r = and_from (same_name r.owner r.owner) (same_data r.value r.value) (same_name-refl r.owner) (same_data-refl r.value)

pub glue_in : (rs : List Record) (x : Record) → Contains (fold add_glue [] rs) x → Contains rs x
glue_in rs x h = ⊎_elim (λ k. absurd (none_in x k)) (λ k. k) (fold_cases alike alike_itself rs [] x h)

pub glue_has : (rs : List Record) (x : Record) → Contains rs x → (y : Record) × Contains (fold add_glue [] rs) y × (y.owner ≡ x.owner) × (y.value ≡ x.value)
glue_has rs x h =
    let m = fold_has alike alike_itself rs [] x h in
    let p = and_parts (same_name m.0.owner x.owner) (same_data m.0.value x.value) m.2 in
    (m.0, m.1, same_name-exact m.0.owner x.owner p.0, same_data-exact m.0.value x.value p.1)

pub glue_distinct : (rs : List Record) → Distinct (fold add_glue [] rs)
glue_distinct rs = fold_distinct alike alike_itself rs [] tt
