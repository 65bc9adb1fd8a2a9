-- The moves, by the place at which a query stands.
use Rattle.std.proofs.Common.{◌≡◌, ℕ, Bool, List, [], ◌∷◌, ◌++◌, get_or, Some, None, sym, ap, ◌∙◌}
use Rattle.std.specs.List.{remove, position}
use Rattle.admission.specs.declared.queries.Admitted.{Admitted}
use Rattle.admission.specs.declared.queries.Held.{Held}
use Rattle.admission.specs.States.{State, state}
use Rattle.admission.specs.Moves.{is_entering, admitted, opened, opened_as, called, left, left_by}
use Rattle.admission.proofs.Lists.{found_there, gone_there, not_there}

-- The same of the state that contracts see.
pub waits_longer : {T : Type 0} (d e : State T) (q : Held T) (ws : List (Held T)) → d ≡ e → ws ≡ d.waiting ++ q ∷ [] → state d.limits d.admitted d.ready ws ≡ record e { waiting = e.waiting ++ q ∷ [] }
waits_longer {T} d e q ws same f =
    let g : State T → State T = λ s. record s { waiting = s.waiting ++ q ∷ [] } in
    ap (λ xs. state d.limits d.admitted d.ready xs) f ∙ ap g same

module _ {T : Type 0} (d : State T) where
  pub opened_none : (k c m : ℕ) → position (is_entering k c) d.admitted ≡ None → d ≡ opened k c m d
  opened_none k c m e = sym (ap (λ o. opened_as o k c m d) (not_there (is_entering k c) d.admitted e))

  pub opened_some : (k c m i : ℕ) (q : Admitted) (ys zs : List Admitted) → position (is_entering k c) d.admitted ≡ Some i → q ≡ get_or d.admitted i q → ys ≡ remove d.admitted i
      → zs ≡ ys ++ record q { opened = Some m } ∷ [] → state d.limits zs d.ready d.waiting ≡ opened k c m d
  opened_some k c m i q ys zs e g f h =
      ap (λ xs. state d.limits xs d.ready d.waiting) (h ∙ ap (λ xs. xs ++ record q { opened = Some m } ∷ []) (f ∙ sym (gone_there (is_entering k c) d.admitted i e)))
      ∙ sym (ap (λ o. opened_as o k c m d) (found_there (is_entering k c) d.admitted i q e ∙ ap (λ x. Some x) (sym g)))

  pub left_none : (test : Admitted → Bool) → position test d.admitted ≡ None → d ≡ left test d
  left_none test e = sym (ap (λ o. left_by o test d) (not_there test d.admitted e))

  pub left_some : (test : Admitted → Bool) (i : ℕ) (e : State T) → position test d.admitted ≡ Some i
      → ((q : Admitted) → e ≡ called (get_or d.admitted i q).key (record d { admitted = remove d.admitted i })) → e ≡ left test d
  left_some test i e p f =
      let q : Admitted = admitted 0 0 0 None in
      f q
      ∙ ap (λ xs. called (get_or d.admitted i q).key (record d { admitted = xs })) (sym (gone_there test d.admitted i p))
      ∙ sym (ap (λ o. left_by o test d) (found_there test d.admitted i q p))
