-- The order in line, and that each is handed out or dropped once.
use Rattle.std.proofs.Common.{◌≡◌, ℕ, ◌+◌, Bool, false, not, cond, List, [], ◌∷◌, ◌++◌, Option, Some, None, refl, sym, ap, ◌∙◌, subst, arith, eqb, append-nil, append_assoc}
use Rattle.std.proofs.lemmas.Bool.{eqb-true, eq-eqb}
use Rattle.std.proofs.lemmas.List.Elements.{filter-append}
use Rattle.std.proofs.lemmas.List.Filters.{sum_by-filter_both}
use Rattle.std.specs.List.{count_by, filter}
use Rattle.std.specs.Option.{option_to_list}
use Rattle.admission.specs.declared.queries.Admitted.{Admitted}
use Rattle.admission.specs.declared.queries.Held.{Held}
use Rattle.admission.specs.declared.queries.Decision.TheVariants.{In, Waits, Refused}
use Rattle.admission.specs.States.{State, held_with}
use Rattle.admission.specs.Moves.{Admits, AdmitsNext, opened_as, left, left_by, taken, dropped, first_of, without_first, held, may_wait, is_entering, is_open, is_late}
use Rattle.admission.specs.Runs.{Move, admits, opens, settles, closes, expires, fails, admits_next, drops, Moves, Runs, line, held_by, too_late, told, ended, all}
use Rattle.admission.proofs.Lists.{by_test, when_true, when_false, one, count-cons, count-append, count-push, count_without, none_goes, passes}

module _ {X : Type 0} where
  -- The first that passes is the first of those that pass.
  filtered_first : (t : X → Bool) (xs : List X) (x : X) → first_of t xs ≡ Some x → filter t xs ≡ x ∷ filter t (without_first t xs)
  filtered_first t [] x e = cc
  filtered_first t (y ∷ ys) x e = by_test (t y)
      (λ t1. let s : Some y ≡ Some x = sym (when_true (Some y) (first_of t ys) t1) ∙ e in
      let i : y ≡ x = cc in
      when_true (y ∷ filter t ys) (filter t ys) t1
      ∙ ap (λ z. z ∷ filter t ys) i
      ∙ ap (λ zs. x ∷ filter t zs) (sym (when_true ys (y ∷ without_first t ys) t1)))
      (λ f1. when_false (y ∷ filter t ys) (filter t ys) f1
      ∙ filtered_first t ys x (sym (when_false (Some y) (first_of t ys) f1) ∙ e)
      ∙ ap (λ zs. x ∷ zs) (sym (when_false (y ∷ filter t (without_first t ys)) (filter t (without_first t ys)) f1) ∙ ap (λ zs. filter t zs) (sym (when_false ys (y ∷ without_first t ys) f1))))

  -- Where the first does not pass another test, those that pass that stay.
  filtered_others : (t p : X → Bool) (xs : List X) (x : X) → first_of t xs ≡ Some x → p x ≡ false → filter p (without_first t xs) ≡ filter p xs
  filtered_others t p [] x e f = cc
  filtered_others t p (y ∷ ys) x e f = by_test (t y)
      (λ t1. let s : Some y ≡ Some x = sym (when_true (Some y) (first_of t ys) t1) ∙ e in
      let i : y ≡ x = cc in
      ap (λ zs. filter p zs) (when_true ys (y ∷ without_first t ys) t1)
      ∙ sym (when_false (y ∷ filter p ys) (filter p ys) (ap p i ∙ f)))
      (λ f1. ap (λ zs. filter p zs) (when_false ys (y ∷ without_first t ys) f1)
      ∙ ap (λ zs. cond (p y) (y ∷ zs) zs) (filtered_others t p ys x (sym (when_false (Some y) (first_of t ys) f1) ∙ e) f))

  -- Two tests, in either order.
  filtered_twice : (t p : X → Bool) (xs : List X) → filter p (filter t xs) ≡ filter t (filter p xs)
  filtered_twice t p [] = refl
  filtered_twice t p (y ∷ ys) = by_test (t y)
      (λ t1. ap (λ zs. filter p zs) (when_true (y ∷ filter t ys) (filter t ys) t1) ∙ by_test (p y)
      (λ also. when_true (y ∷ filter p (filter t ys)) (filter p (filter t ys)) also
      ∙ ap (λ zs. y ∷ zs) (filtered_twice t p ys)
      ∙ sym (when_true (y ∷ filter t (filter p ys)) (filter t (filter p ys)) t1)
      ∙ ap (λ zs. filter t zs) (sym (when_true (y ∷ filter p ys) (filter p ys) also)))
      (λ not_p. when_false (y ∷ filter p (filter t ys)) (filter p (filter t ys)) not_p
      ∙ filtered_twice t p ys
      ∙ ap (λ zs. filter t zs) (sym (when_false (y ∷ filter p ys) (filter p ys) not_p))))
      (λ f1. ap (λ zs. filter p zs) (when_false (y ∷ filter t ys) (filter t ys) f1)
      ∙ filtered_twice t p ys
      ∙ by_test (p y)
      (λ also. sym (when_false (y ∷ filter t (filter p ys)) (filter t (filter p ys)) f1)
      ∙ ap (λ zs. filter t zs) (sym (when_true (y ∷ filter p ys) (filter p ys) also)))
      (λ not_p. ap (λ zs. filter t zs) (sym (when_false (y ∷ filter p ys) (filter p ys) not_p))))

  -- What passes a test, and what does not.
  counted_both : (t p : X → Bool) (xs : List X) → count_by p (filter t xs) + count_by p (filter (λ x. not (t x)) xs) ≡ count_by p xs
  counted_both t p xs = sum_by-filter_both t (λ x. not (t x)) (λ x. refl) (λ x. cond (p x) 1 0) xs

  filtered_push : (p : X → Bool) (xs : List X) (x : X) → filter p (xs ++ x ∷ []) ≡ filter p xs ++ filter p (x ∷ [])
  filtered_push p xs x = filter-append p xs (x ∷ [])

module _ {T : Type 0} where
  -- A query that waits stands at the end of its line.
  pub line_waits : (d e : State T) (k c s moment : ℕ) (answered : Bool) (p : T) → Admits d k c s answered moment p Waits e → line k e ≡ line k d ++ held k c s moment p ∷ []
  line_waits d e k c s moment answered p h =
      let q : Held T = held k c s moment p in
      ap (λ s. line k s) h.3
      ∙ ap (λ zs. filter (held_with k) d.ready ++ zs) (filtered_push (held_with k) d.waiting q ∙ ap (λ zs. filter (held_with k) d.waiting ++ zs) (when_true (q ∷ []) [] (eq-eqb k k refl)))
      ∙ sym (append_assoc (filter (held_with k) d.ready) (filter (held_with k) d.waiting) (q ∷ []))

  -- Calling one in changes no line.
  line_called_by : (d : State T) (k j : ℕ) (o : Option (Held T)) → first_of (held_with k) d.waiting ≡ o
      → filter (held_with j) (d.ready ++ option_to_list o) ++ filter (held_with j) (without_first (held_with k) d.waiting) ≡ line j d
  line_called_by d k j None e =
      ap (λ zs. filter (held_with j) zs ++ filter (held_with j) (without_first (held_with k) d.waiting)) (append-nil d.ready)
      ∙ ap (λ zs. filter (held_with j) d.ready ++ filter (held_with j) zs) (none_goes (held_with k) d.waiting e)
  line_called_by d k j (Some x) e = by_test (held_with j x)
      (λ t1. let key : k ≡ j = sym (eqb-true x.key k (passes (held_with k) d.waiting x e)) ∙ eqb-true x.key j t1 in
      let first : first_of (held_with j) d.waiting ≡ Some x = subst (λ i. first_of (held_with i) d.waiting ≡ Some x) key e in
      let others : without_first (held_with k) d.waiting ≡ without_first (held_with j) d.waiting = ap (λ i. without_first (held_with i) d.waiting) key in
      ap (λ zs. zs ++ filter (held_with j) (without_first (held_with k) d.waiting)) (filtered_push (held_with j) d.ready x ∙ ap (λ zs. filter (held_with j) d.ready ++ zs) (when_true (x ∷ []) [] t1))
      ∙ append_assoc (filter (held_with j) d.ready) (x ∷ []) (filter (held_with j) (without_first (held_with k) d.waiting))
      ∙ ap (λ zs. filter (held_with j) d.ready ++ (x ∷ filter (held_with j) zs)) others
      ∙ ap (λ zs. filter (held_with j) d.ready ++ zs) (sym (filtered_first (held_with j) d.waiting x first)))
      (λ f1. ap (λ zs. zs ++ filter (held_with j) (without_first (held_with k) d.waiting)) (filtered_push (held_with j) d.ready x ∙ ap (λ zs. filter (held_with j) d.ready ++ zs) (when_false (x ∷ []) [] f1) ∙ append-nil (filter (held_with j) d.ready))
      ∙ ap (λ zs. filter (held_with j) d.ready ++ zs) (filtered_others (held_with k) (held_with j) d.waiting x e f1))

  line_left_by : (d : State T) (test : Admitted → Bool) (j : ℕ) (o : Option Admitted) → line j (left_by o test d) ≡ line j d
  line_left_by d test j None = refl
  line_left_by d test j (Some q) = line_called_by d q.key j (first_of (held_with q.key) d.waiting) refl

  pub line_left : (d : State T) (test : Admitted → Bool) (j : ℕ) → line j (left test d) ≡ line j d
  line_left d test j = line_left_by d test j (first_of test d.admitted)

  -- Who comes in was the first of his line.
  pub line_comes : (d e : State T) (q : Held T) → AdmitsNext d (Some q) e → line q.key d ≡ q ∷ line q.key e
  line_comes d e q h =
      ap (λ zs. filter (held_with q.key) zs ++ filter (held_with q.key) d.waiting) h.0
      ∙ ap (λ zs. zs ++ filter (held_with q.key) d.waiting) (when_true (q ∷ filter (held_with q.key) e.ready) (filter (held_with q.key) e.ready) (eq-eqb q.key q.key refl))
      ∙ ap (λ ws. q ∷ (filter (held_with q.key) e.ready ++ filter (held_with q.key) ws)) (sym (ap (λ s. s.waiting) h.1))

  pub line_others : (d e : State T) (q : Held T) (k : ℕ) → AdmitsNext d (Some q) e → eqb q.key k ≡ false → line k d ≡ line k e
  line_others d e q k h f1 =
      ap (λ zs. filter (held_with k) zs ++ filter (held_with k) d.waiting) h.0
      ∙ ap (λ zs. zs ++ filter (held_with k) d.waiting) (when_false (q ∷ filter (held_with k) e.ready) (filter (held_with k) e.ready) f1)
      ∙ ap (λ ws. filter (held_with k) e.ready ++ filter (held_with k) ws) (sym (ap (λ s. s.waiting) h.1))

  pub line_fails : (d : State T) (q : Held T) (k : ℕ) → first_of (held_with k) d.waiting ≡ Some q → filter (held_with k) d.waiting ≡ q ∷ filter (held_with k) (taken k d).waiting
  line_fails d q k e = filtered_first (held_with k) d.waiting q e

  pub line_drops : (d : State T) (now k : ℕ) → line k (dropped now d) ≡ filter (held_with k) d.ready ++ filter (may_wait now) (filter (held_with k) d.waiting)
  line_drops d now k = ap (λ zs. filter (held_with k) d.ready ++ zs) (filtered_twice (may_wait now) (held_with k) d.waiting)

  -- Of those that pass a test, none comes twice and none is lost.
  held_called : (d : State T) (p : Held T → Bool) (k : ℕ) (o : Option (Held T)) → first_of (held_with k) d.waiting ≡ o
      → count_by p (d.ready ++ option_to_list o) + count_by p (without_first (held_with k) d.waiting) ≡ held_by p d
  held_called d p k None e =
      let n : count_by p (d.ready ++ []) ≡ count_by p d.ready = ap (λ zs. count_by p zs) (append-nil d.ready) in
      let m : count_by p (without_first (held_with k) d.waiting) ≡ count_by p d.waiting = ap (λ zs. count_by p zs) (none_goes (held_with k) d.waiting e) in
      omega (arith, n, m)
  held_called d p k (Some x) e =
      let n : count_by p (d.ready ++ x ∷ []) ≡ count_by p d.ready + one (p x) = count-push p d.ready x in
      let m : count_by p (without_first (held_with k) d.waiting) + one (p x) ≡ count_by p d.waiting = count_without (held_with k) p d.waiting x e in
      omega (arith, n, m)

  held_left_by : (d : State T) (p : Held T → Bool) (test : Admitted → Bool) (o : Option Admitted) → held_by p (left_by o test d) ≡ held_by p d
  held_left_by d p test None = refl
  held_left_by d p test (Some q) = held_called d p q.key (first_of (held_with q.key) d.waiting) refl

  held_opened : (d : State T) (p : Held T → Bool) (o : Option Admitted) (k c m : ℕ) → held_by p (opened_as o k c m d) ≡ held_by p d
  held_opened d p None k c m = refl
  held_opened d p (Some q) k c m = refl

  held_taken : (d : State T) (p : Held T → Bool) (k : ℕ) (o : Option (Held T)) → first_of (held_with k) d.waiting ≡ o
      → held_by p d ≡ count_by p (option_to_list o) + held_by p (taken k d)
  held_taken d p k None e =
      let m : count_by p (without_first (held_with k) d.waiting) ≡ count_by p d.waiting = ap (λ zs. count_by p zs) (none_goes (held_with k) d.waiting e) in
      omega (arith, m)
  held_taken d p k (Some x) e =
      let n : count_by p (x ∷ []) ≡ one (p x) + 0 = count-cons p x [] in
      let m : count_by p (without_first (held_with k) d.waiting) + one (p x) ≡ count_by p d.waiting = count_without (held_with k) p d.waiting x e in
      omega (arith, n, m)

  once : (m : Move T) (d e : State T) (p : Held T → Bool) → Moves m d e → count_by p (told m) + held_by p d ≡ count_by p (ended m) + held_by p e
  once (admits k c z answered moment x (In given)) d e p h = let s : held_by p e ≡ held_by p d = ap (λ s. held_by p s) h.3 in omega (arith, s)
  once (admits k c z answered moment x Waits) d e p h =
      let q : Held T = held k c z moment x in
      let s : held_by p e ≡ count_by p d.ready + count_by p (d.waiting ++ held k c z moment x ∷ []) = ap (λ s. held_by p s) h.3 in
      let n : count_by p (d.waiting ++ held k c z moment x ∷ []) ≡ count_by p d.waiting + one (p (held k c z moment x)) = count-push p d.waiting (held k c z moment x) in
      let m : count_by p (held k c z moment x ∷ []) ≡ one (p (held k c z moment x)) + 0 = count-cons p (held k c z moment x) [] in
      omega (arith, s, n, m)
  once (admits k c z answered moment x (Refused given)) d e p h = let s : held_by p e ≡ held_by p d = ap (λ s. held_by p s) h.2 in omega (arith, s)
  once (opens k c moment) d e p h =
      let s : held_by p e ≡ held_by p d = ap (λ s. held_by p s) h ∙ held_opened d p (first_of (is_entering k c) d.admitted) k c moment in omega (arith, s)
  once (settles k c) d e p h = let s : held_by p e ≡ held_by p d = ap (λ s. held_by p s) h ∙ held_left_by d p (is_entering k c) (first_of (is_entering k c) d.admitted) in omega (arith, s)
  once (closes k c) d e p h = let s : held_by p e ≡ held_by p d = ap (λ s. held_by p s) h ∙ held_left_by d p (is_open k c) (first_of (is_open k c) d.admitted) in omega (arith, s)
  once (expires now) d e p h = let s : held_by p e ≡ held_by p d = ap (λ s. held_by p s) h ∙ held_left_by d p (is_late now) (first_of (is_late now) d.admitted) in omega (arith, s)
  once (fails k r) d e p h =
      let s : held_by p e ≡ held_by p (taken k d) = ap (λ s. held_by p s) h.1 in
      let n : held_by p d ≡ count_by p (option_to_list r) + held_by p (taken k d) = held_taken d p k r (sym h.0) in
      omega (arith, s, n)
  once (admits_next None) d e p h = let s : held_by p e ≡ held_by p d = ap (λ s. held_by p s) h.1 in omega (arith, s)
  once (admits_next (Some q)) d e p h =
      let s : count_by p e.waiting ≡ count_by p d.waiting = ap (λ s. count_by p s.waiting) h.1 in
      let n : count_by p d.ready ≡ one (p q) + count_by p e.ready = ap (λ zs. count_by p zs) h.0 ∙ count-cons p q e.ready in
      let m : count_by p (q ∷ []) ≡ one (p q) + 0 = count-cons p q [] in
      omega (arith, s, n, m)
  once (drops now gone) d e p h =
      let s : held_by p e ≡ count_by p d.ready + count_by p (filter (may_wait now) d.waiting) = ap (λ s. held_by p s) h.1 in
      let g : count_by p gone ≡ count_by p (too_late now d.waiting) = ap (λ zs. count_by p zs) h.0 in
      let n : count_by p (filter (may_wait now) d.waiting) + count_by p (too_late now d.waiting) ≡ count_by p d.waiting = counted_both (may_wait now) p d.waiting in
      omega (arith, s, g, n)

  pub once_runs : (ms : List (Move T)) (d e : State T) (p : Held T → Bool) → Runs ms d e → count_by p (all told ms) + held_by p d ≡ count_by p (all ended ms) + held_by p e
  once_runs [] d e p h = let s : held_by p e ≡ held_by p d = ap (λ s. held_by p s) h in omega (arith, s)
  once_runs (m ∷ ms) d e p h =
      let a : count_by p (told m) + held_by p d ≡ count_by p (ended m) + held_by p h.0 = once m d h.0 p h.1 in
      let b : count_by p (all told ms) + held_by p h.0 ≡ count_by p (all ended ms) + held_by p e = once_runs ms h.0 e p h.2 in
      let n : count_by p (told m ++ all told ms) ≡ count_by p (told m) + count_by p (all told ms) = count-append p (told m) (all told ms) in
      let l : count_by p (ended m ++ all ended ms) ≡ count_by p (ended m) + count_by p (all ended ms) = count-append p (ended m) (all ended ms) in
      omega (arith, a, b, n, l)
