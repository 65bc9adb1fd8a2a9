-- What holds of an admission at all times is kept by each move.
use Rattle.std.proofs.Common.{◌≡◌, ℕ, zero, suc, ◌+◌, ◌<◌, ◌≤◌, Bool, true, false, ◌||◌, List, [], ◌∷◌, ◌++◌, length, Option, Some, None, refl, ap, ◌∙◌, subst, arith, eqb, leb, length-append}
use Rattle.std.proofs.lemmas.Bool.{eqb-true, leb-false}
use Rattle.std.specs.List.{count_by}
use Rattle.std.specs.Option.{option_to_list}
use Rattle.admission.specs.declared.limits.Limits.{Limits}
use Rattle.admission.specs.declared.queries.Admitted.{Admitted}
use Rattle.admission.specs.declared.queries.Held.{Held}
use Rattle.admission.specs.States.{State, state, address_in, admitted_with, admitted_from, held_with, held_from, inside, of_key, waiting_of, of_address, is_shut, IsKept}
use Rattle.admission.specs.Moves.{first_of, without_first, admitted}
use Rattle.admission.proofs.Lists.{by_test, one, one-false, count-push, count-append, count-cons, count_without, length_without, none_first, none_goes, none_passes, passes}

-- None of three where not one of them.
first_false : (a b c : Bool) → (a || b || c) ≡ false → a ≡ false
first_false true b c e = e
first_false false b c e = refl

second_false : (a b c : Bool) → (a || b || c) ≡ false → b ≡ false
second_false true true c e = e
second_false true false c e = refl
second_false false true c e = e
second_false false false c e = refl

-- One or none, by a test.
one_at_most : (b : Bool) → one b ≤ 1
one_at_most true = omega arith
one_at_most false = omega arith

longer : {X : Type 0} (xs : List X) (x : X) → length (xs ++ x ∷ []) ≡ length xs + 1
longer xs x = length-append xs (x ∷ [])

-- One that has the key k where it has the key j.
same_key : (k j l : ℕ) → k ≡ j → one (eqb k l) ≡ one (eqb j l)
same_key k j l e = ap (λ x. one (eqb x l)) e

-- The same of equal lists.
pub kept_as : {T : Type 0} (l : Limits) (a : List Admitted) {r s v w : List (Held T)} → r ≡ s → v ≡ w → IsKept (state l a r v) → IsKept (state l a s w)
kept_as l a {r} {s} {v} {w} e f kept = subst (λ x. IsKept (state l a x w)) e (subst (λ x. IsKept (state l a r x)) f kept)

module _ {T : Type 0} (d : State T) (kept : IsKept d) where
  none_by : (k n : ℕ) → waiting_of k d ≡ n → of_key k d < d.limits.equal → first_of (held_with k) d.waiting ≡ None
  none_by k zero e few = none_first (held_with k) d.waiting e
  none_by k (suc n) e few = let h : of_key k d ≡ d.limits.equal = kept.not_in_vain k (omega (arith, e)) in absurd (omega (arith, few, h))

  -- No query waits where fewer equal ones are inside than may be.
  none_waits : (k : ℕ) → of_key k d < d.limits.equal → first_of (held_with k) d.waiting ≡ None
  none_waits k few = none_by k (waiting_of k d) refl few

  -- None waits for the key of one that leaves, where with it fewer equal ones were inside than may be.
  pub none_called : (q : Admitted) (rest : List Admitted) → ((p : Admitted → Bool) → count_by p rest + one (p q) ≡ count_by p d.admitted)
      → count_by (admitted_with q.key) rest + count_by (held_with q.key) d.ready + 1 < d.limits.equal → first_of (held_with q.key) d.waiting ≡ None
  none_called q rest counts few =
      let m : count_by (admitted_with q.key) rest + one (eqb q.key q.key) ≡ count_by (admitted_with q.key) d.admitted = counts (admitted_with q.key) in
      let z : one (eqb q.key q.key) ≤ 1 = one_at_most (eqb q.key q.key) in
      none_waits q.key (omega (arith, few, m, z))

  -- A query that is admitted.
  pub kept_admitted : (q : Admitted) (answered : Bool) → of_key q.key d < d.limits.equal → is_shut (address_in q.client) q.domain answered d ≡ false → IsKept (state d.limits (d.admitted ++ q ∷ []) d.ready d.waiting)
  kept_admitted q answered few open_to = record { equal = equal; each = each; places = places; few = kept.few; not_in_vain = not_in_vain }
    where
      a : ℕ
      a = address_in q.client

      e : State T
      e = state d.limits (d.admitted ++ q ∷ []) d.ready d.waiting

      below : of_address (address_in q.client) d < d.limits.each
      below = leb-false d.limits.each (of_address (address_in q.client) d) (first_false (leb d.limits.each (of_address (address_in q.client) d)) (leb d.limits.places (inside d)) _ open_to)

      room : inside d < d.limits.places
      room = leb-false d.limits.places (inside d) (second_false (leb d.limits.each (of_address (address_in q.client) d)) (leb d.limits.places (inside d)) _ open_to)

      equal : (k : ℕ) → of_key k (state d.limits (d.admitted ++ q ∷ []) d.ready d.waiting) ≤ d.limits.equal
      equal k = by_test (eqb q.key k)
          (λ t. let i : of_key q.key d ≡ of_key k d = ap (λ j. of_key j d) (eqb-true q.key k t) in
          let n : count_by (admitted_with k) (d.admitted ++ q ∷ []) ≡ count_by (admitted_with k) d.admitted + one (eqb q.key k) = count-push (admitted_with k) d.admitted q in
          let z : one (eqb q.key k) ≤ 1 = one_at_most (eqb q.key k) in
          omega (arith, few, i, n, z))
          (λ f. let h : of_key k d ≤ d.limits.equal = kept.equal k in
          let n : count_by (admitted_with k) (d.admitted ++ q ∷ []) ≡ count_by (admitted_with k) d.admitted + one (eqb q.key k) = count-push (admitted_with k) d.admitted q in
          let z : one (eqb q.key k) ≡ 0 = one-false (eqb q.key k) f in
          omega (arith, h, n, z))

      each : (b : ℕ) → of_address b (state d.limits (d.admitted ++ q ∷ []) d.ready d.waiting) ≤ d.limits.each
      each b = by_test (eqb (address_in q.client) b)
          (λ t. let i : of_address (address_in q.client) d ≡ of_address b d = ap (λ j. of_address j d) (eqb-true (address_in q.client) b t) in
          let n : count_by (admitted_from b) (d.admitted ++ q ∷ []) ≡ count_by (admitted_from b) d.admitted + one (eqb (address_in q.client) b) = count-push (admitted_from b) d.admitted q in
          let z : one (eqb (address_in q.client) b) ≤ 1 = one_at_most (eqb (address_in q.client) b) in
          let m : of_address (address_in q.client) d < d.limits.each = below in
          omega (arith, m, i, n, z))
          (λ f. let h : of_address b d ≤ d.limits.each = kept.each b in
          let n : count_by (admitted_from b) (d.admitted ++ q ∷ []) ≡ count_by (admitted_from b) d.admitted + one (eqb (address_in q.client) b) = count-push (admitted_from b) d.admitted q in
          let z : one (eqb (address_in q.client) b) ≡ 0 = one-false (eqb (address_in q.client) b) f in
          omega (arith, h, n, z))

      places : inside (state d.limits (d.admitted ++ q ∷ []) d.ready d.waiting) ≤ d.limits.places
      places = let n : length (d.admitted ++ q ∷ []) ≡ length d.admitted + 1 = longer d.admitted q in let m : inside d < d.limits.places = room in omega (arith, n, m)

      not_in_vain : (k : ℕ) → 0 < waiting_of k d → of_key k (state d.limits (d.admitted ++ q ∷ []) d.ready d.waiting) ≡ d.limits.equal
      not_in_vain k some = by_test (eqb q.key k)
          (λ t. let i : of_key q.key d ≡ of_key k d = ap (λ j. of_key j d) (eqb-true q.key k t) in
          let h : of_key k d ≡ d.limits.equal = kept.not_in_vain k some in
          absurd (omega (arith, few, i, h)))
          (λ f. let h : of_key k d ≡ d.limits.equal = kept.not_in_vain k some in
          let n : count_by (admitted_with k) (d.admitted ++ q ∷ []) ≡ count_by (admitted_with k) d.admitted + one (eqb q.key k) = count-push (admitted_with k) d.admitted q in
          let z : one (eqb q.key k) ≡ 0 = one-false (eqb q.key k) f in
          omega (arith, h, n, z))

  -- A query that waits.
  pub kept_waiting : (q : Held T) (answered : Bool) → d.limits.equal ≤ of_key q.key d → is_shut (address_in q.client) q.domain answered d ≡ false → length d.waiting < d.limits.waiting → IsKept (state d.limits d.admitted d.ready (d.waiting ++ q ∷ []))
  kept_waiting q answered many open_to room = record { equal = kept.equal; each = each; places = kept.places; few = few; not_in_vain = not_in_vain }
    where
      below : of_address (address_in q.client) d < d.limits.each
      below = leb-false d.limits.each (of_address (address_in q.client) d) (first_false (leb d.limits.each (of_address (address_in q.client) d)) (leb d.limits.places (inside d)) _ open_to)

      each : (b : ℕ) → of_address b (state d.limits d.admitted d.ready (d.waiting ++ q ∷ [])) ≤ d.limits.each
      each b = by_test (eqb (address_in q.client) b)
          (λ t. let i : of_address (address_in q.client) d ≡ of_address b d = ap (λ j. of_address j d) (eqb-true (address_in q.client) b t) in
          let n : count_by (held_from b) (d.waiting ++ q ∷ []) ≡ count_by (held_from b) d.waiting + one (eqb (address_in q.client) b) = count-push (held_from b) d.waiting q in
          let z : one (eqb (address_in q.client) b) ≤ 1 = one_at_most (eqb (address_in q.client) b) in
          let m : of_address (address_in q.client) d < d.limits.each = below in
          omega (arith, m, i, n, z))
          (λ f. let h : of_address b d ≤ d.limits.each = kept.each b in
          let n : count_by (held_from b) (d.waiting ++ q ∷ []) ≡ count_by (held_from b) d.waiting + one (eqb (address_in q.client) b) = count-push (held_from b) d.waiting q in
          let z : one (eqb (address_in q.client) b) ≡ 0 = one-false (eqb (address_in q.client) b) f in
          omega (arith, h, n, z))

      few : length (d.waiting ++ q ∷ []) ≤ d.limits.waiting
      few = let n : length (d.waiting ++ q ∷ []) ≡ length d.waiting + 1 = longer d.waiting q in omega (arith, n, room)

      not_in_vain : (k : ℕ) → 0 < waiting_of k (state d.limits d.admitted d.ready (d.waiting ++ q ∷ [])) → of_key k d ≡ d.limits.equal
      not_in_vain k some = by_test (eqb q.key k)
          (λ t. let i : of_key q.key d ≡ of_key k d = ap (λ j. of_key j d) (eqb-true q.key k t) in
          let h : of_key k d ≤ d.limits.equal = kept.equal k in
          omega (arith, many, i, h))
          (λ f. let n : count_by (held_with k) (d.waiting ++ q ∷ []) ≡ count_by (held_with k) d.waiting + one (eqb q.key k) = count-push (held_with k) d.waiting q in
          let z : one (eqb q.key k) ≡ 0 = one-false (eqb q.key k) f in
          kept.not_in_vain k (omega (arith, some, n, z)))

  -- Fewer that wait.
  pub kept_fewer : (ws : List (Held T)) → ((p : Held T → Bool) → count_by p ws ≤ count_by p d.waiting) → length ws ≤ length d.waiting → IsKept (state d.limits d.admitted d.ready ws)
  kept_fewer ws counts short = record {
    equal = kept.equal;
    each = λ b. let h : of_address b d ≤ d.limits.each = kept.each b in let n : count_by (held_from b) ws ≤ count_by (held_from b) d.waiting = counts (held_from b) in omega (arith, h, n);
    places = kept.places;
    few = let h : length d.waiting ≤ d.limits.waiting = kept.few in omega (arith, h, short);
    not_in_vain = λ k some. let n : count_by (held_with k) ws ≤ count_by (held_with k) d.waiting = counts (held_with k) in kept.not_in_vain k (omega (arith, some, n));
  }

  -- A query that was called in and is admitted.
  pub kept_next : (q : Held T) (qs : List (Held T)) → d.ready ≡ q ∷ qs → IsKept (state d.limits (d.admitted ++ admitted q.key q.client q.domain None ∷ []) qs d.waiting)
  kept_next q qs e = record { equal = equal; each = each; places = places; few = kept.few; not_in_vain = not_in_vain }
    where
      a : Admitted
      a = admitted q.key q.client q.domain None

      keys : (k : ℕ) → of_key k (state d.limits (d.admitted ++ admitted q.key q.client q.domain None ∷ []) qs d.waiting) ≡ of_key k d
      keys k =
          let n : count_by (admitted_with k) (d.admitted ++ admitted q.key q.client q.domain None ∷ []) ≡ count_by (admitted_with k) d.admitted + one (eqb q.key k) = count-push (admitted_with k) d.admitted (admitted q.key q.client q.domain None) in
          let m : count_by (held_with k) d.ready ≡ one (eqb q.key k) + count_by (held_with k) qs = ap (λ xs. count_by (held_with k) xs) e ∙ count-cons (held_with k) q qs in
          omega (arith, n, m)

      equal : (k : ℕ) → of_key k (state d.limits (d.admitted ++ admitted q.key q.client q.domain None ∷ []) qs d.waiting) ≤ d.limits.equal
      equal k = let h : of_key k d ≤ d.limits.equal = kept.equal k in let n : of_key k (state d.limits (d.admitted ++ admitted q.key q.client q.domain None ∷ []) qs d.waiting) ≡ of_key k d = keys k in omega (arith, h, n)

      each : (b : ℕ) → of_address b (state d.limits (d.admitted ++ admitted q.key q.client q.domain None ∷ []) qs d.waiting) ≤ d.limits.each
      each b =
          let h : of_address b d ≤ d.limits.each = kept.each b in
          let n : count_by (admitted_from b) (d.admitted ++ admitted q.key q.client q.domain None ∷ []) ≡ count_by (admitted_from b) d.admitted + one (eqb (address_in q.client) b) = count-push (admitted_from b) d.admitted (admitted q.key q.client q.domain None) in
          let m : count_by (held_from b) d.ready ≡ one (eqb (address_in q.client) b) + count_by (held_from b) qs = ap (λ xs. count_by (held_from b) xs) e ∙ count-cons (held_from b) q qs in
          omega (arith, h, n, m)

      places : inside (state d.limits (d.admitted ++ admitted q.key q.client q.domain None ∷ []) qs d.waiting) ≤ d.limits.places
      places =
          let h : inside d ≤ d.limits.places = kept.places in
          let n : length (d.admitted ++ admitted q.key q.client q.domain None ∷ []) ≡ length d.admitted + 1 = longer d.admitted (admitted q.key q.client q.domain None) in
          let m : length d.ready ≡ suc (length qs) = ap length e in
          omega (arith, h, n, m)

      not_in_vain : (k : ℕ) → 0 < waiting_of k d → of_key k (state d.limits (d.admitted ++ admitted q.key q.client q.domain None ∷ []) qs d.waiting) ≡ d.limits.equal
      not_in_vain k some = keys k ∙ kept.not_in_vain k some

  -- A query that was admitted and stands at the end now.
  pub kept_moved : (q r : Admitted) (rest : List Admitted) → ((p : Admitted → Bool) → count_by p rest + one (p q) ≡ count_by p d.admitted) → length rest + 1 ≡ length d.admitted → q.key ≡ r.key → q.client ≡ r.client → IsKept (state d.limits (rest ++ r ∷ []) d.ready d.waiting)
  kept_moved q r rest counts long key client = record { equal = equal; each = each; places = places; few = kept.few; not_in_vain = not_in_vain }
    where
      keys : (k : ℕ) → of_key k (state d.limits (rest ++ r ∷ []) d.ready d.waiting) ≡ of_key k d
      keys k =
          let n : count_by (admitted_with k) (rest ++ r ∷ []) ≡ count_by (admitted_with k) rest + one (eqb r.key k) = count-push (admitted_with k) rest r in
          let m : count_by (admitted_with k) rest + one (eqb q.key k) ≡ count_by (admitted_with k) d.admitted = counts (admitted_with k) in
          let s : one (eqb q.key k) ≡ one (eqb r.key k) = ap (λ x. one (eqb x k)) key in
          omega (arith, n, m, s)

      equal : (k : ℕ) → of_key k (state d.limits (rest ++ r ∷ []) d.ready d.waiting) ≤ d.limits.equal
      equal k = let h : of_key k d ≤ d.limits.equal = kept.equal k in let n : of_key k (state d.limits (rest ++ r ∷ []) d.ready d.waiting) ≡ of_key k d = keys k in omega (arith, h, n)

      each : (b : ℕ) → of_address b (state d.limits (rest ++ r ∷ []) d.ready d.waiting) ≤ d.limits.each
      each b =
          let h : of_address b d ≤ d.limits.each = kept.each b in
          let n : count_by (admitted_from b) (rest ++ r ∷ []) ≡ count_by (admitted_from b) rest + one (eqb (address_in r.client) b) = count-push (admitted_from b) rest r in
          let m : count_by (admitted_from b) rest + one (eqb (address_in q.client) b) ≡ count_by (admitted_from b) d.admitted = counts (admitted_from b) in
          let s : one (eqb (address_in q.client) b) ≡ one (eqb (address_in r.client) b) = ap (λ x. one (eqb (address_in x) b)) client in
          omega (arith, h, n, m, s)

      places : inside (state d.limits (rest ++ r ∷ []) d.ready d.waiting) ≤ d.limits.places
      places =
          let h : inside d ≤ d.limits.places = kept.places in
          let n : length (rest ++ r ∷ []) ≡ length rest + 1 = longer rest r in
          omega (arith, h, n, long)

      not_in_vain : (k : ℕ) → 0 < waiting_of k d → of_key k (state d.limits (rest ++ r ∷ []) d.ready d.waiting) ≡ d.limits.equal
      not_in_vain k some = keys k ∙ kept.not_in_vain k some

  -- A query that leaves, for which the first that waits for its key, if one waits, is called in.
  pub kept_left : (q : Admitted) (rest : List Admitted) → ((p : Admitted → Bool) → count_by p rest + one (p q) ≡ count_by p d.admitted) → length rest + 1 ≡ length d.admitted → (o : Option (Held T)) → first_of (held_with q.key) d.waiting ≡ o
      → IsKept (state d.limits rest (d.ready ++ option_to_list o) (without_first (held_with q.key) d.waiting))
  kept_left q rest counts long None e = record { equal = equal; each = each; places = places; few = few; not_in_vain = not_in_vain }
    where
      same : without_first (held_with q.key) d.waiting ≡ d.waiting
      same = none_goes (held_with q.key) d.waiting e

      keys : (k : ℕ) → of_key k (state d.limits rest (d.ready ++ []) (without_first (held_with q.key) d.waiting)) + one (eqb q.key k) ≡ of_key k d
      keys k =
          let m : count_by (admitted_with k) rest + one (eqb q.key k) ≡ count_by (admitted_with k) d.admitted = counts (admitted_with k) in
          let n : count_by (held_with k) (d.ready ++ []) ≡ count_by (held_with k) d.ready + 0 = count-append (held_with k) d.ready [] in
          omega (arith, m, n)

      equal : (k : ℕ) → of_key k (state d.limits rest (d.ready ++ []) (without_first (held_with q.key) d.waiting)) ≤ d.limits.equal
      equal k = let h : of_key k d ≤ d.limits.equal = kept.equal k in
          let n : of_key k (state d.limits rest (d.ready ++ []) (without_first (held_with q.key) d.waiting)) + one (eqb q.key k) ≡ of_key k d = keys k in
          omega (arith, h, n)

      each : (b : ℕ) → of_address b (state d.limits rest (d.ready ++ []) (without_first (held_with q.key) d.waiting)) ≤ d.limits.each
      each b =
          let h : of_address b d ≤ d.limits.each = kept.each b in
          let m : count_by (admitted_from b) rest + one (eqb (address_in q.client) b) ≡ count_by (admitted_from b) d.admitted = counts (admitted_from b) in
          let n : count_by (held_from b) (d.ready ++ []) ≡ count_by (held_from b) d.ready + 0 = count-append (held_from b) d.ready [] in
          let s : count_by (held_from b) (without_first (held_with q.key) d.waiting) ≡ count_by (held_from b) d.waiting = ap (λ xs. count_by (held_from b) xs) same in
          omega (arith, h, m, n, s)

      places : inside (state d.limits rest (d.ready ++ []) (without_first (held_with q.key) d.waiting)) ≤ d.limits.places
      places = let h : inside d ≤ d.limits.places = kept.places in let n : length (d.ready ++ []) ≡ length d.ready + 0 = length-append d.ready [] in omega (arith, h, n, long)

      few : length (without_first (held_with q.key) d.waiting) ≤ d.limits.waiting
      few = let h : length d.waiting ≤ d.limits.waiting = kept.few in let s : length (without_first (held_with q.key) d.waiting) ≡ length d.waiting = ap length same in omega (arith, h, s)

      not_in_vain : (k : ℕ) → 0 < count_by (held_with k) (without_first (held_with q.key) d.waiting) → of_key k (state d.limits rest (d.ready ++ []) (without_first (held_with q.key) d.waiting)) ≡ d.limits.equal
      not_in_vain k some =
          let s : count_by (held_with k) (without_first (held_with q.key) d.waiting) ≡ count_by (held_with k) d.waiting = ap (λ xs. count_by (held_with k) xs) same in
          let w : 0 < count_by (held_with k) d.waiting = omega (arith, some, s) in
          by_test (eqb q.key k)
          (λ t. let z : count_by (held_with q.key) d.waiting ≡ 0 = none_passes (held_with q.key) d.waiting e in
          let i : count_by (held_with q.key) d.waiting ≡ count_by (held_with k) d.waiting = ap (λ j. count_by (held_with j) d.waiting) (eqb-true q.key k t) in
          absurd (omega (arith, w, z, i)))
          (λ f. let h : of_key k d ≡ d.limits.equal = kept.not_in_vain k w in
          let n : of_key k (state d.limits rest (d.ready ++ []) (without_first (held_with q.key) d.waiting)) + one (eqb q.key k) ≡ of_key k d = keys k in
          let z : one (eqb q.key k) ≡ 0 = one-false (eqb q.key k) f in
          omega (arith, h, n, z))
  kept_left q rest counts long (Some x) e = record { equal = equal; each = each; places = places; few = few; not_in_vain = not_in_vain }
    where
      key : x.key ≡ q.key
      key = eqb-true x.key q.key (passes (held_with q.key) d.waiting x e)

      keys : (k : ℕ) → of_key k (state d.limits rest (d.ready ++ x ∷ []) (without_first (held_with q.key) d.waiting)) ≡ of_key k d
      keys k =
          let m : count_by (admitted_with k) rest + one (eqb q.key k) ≡ count_by (admitted_with k) d.admitted = counts (admitted_with k) in
          let n : count_by (held_with k) (d.ready ++ x ∷ []) ≡ count_by (held_with k) d.ready + one (eqb x.key k) = count-push (held_with k) d.ready x in
          let s : one (eqb x.key k) ≡ one (eqb q.key k) = ap (λ j. one (eqb j k)) key in
          omega (arith, m, n, s)

      equal : (k : ℕ) → of_key k (state d.limits rest (d.ready ++ x ∷ []) (without_first (held_with q.key) d.waiting)) ≤ d.limits.equal
      equal k = let h : of_key k d ≤ d.limits.equal = kept.equal k in
          let n : of_key k (state d.limits rest (d.ready ++ x ∷ []) (without_first (held_with q.key) d.waiting)) ≡ of_key k d = keys k in
          omega (arith, h, n)

      each : (b : ℕ) → of_address b (state d.limits rest (d.ready ++ x ∷ []) (without_first (held_with q.key) d.waiting)) ≤ d.limits.each
      each b =
          let h : of_address b d ≤ d.limits.each = kept.each b in
          let m : count_by (admitted_from b) rest + one (eqb (address_in q.client) b) ≡ count_by (admitted_from b) d.admitted = counts (admitted_from b) in
          let n : count_by (held_from b) (d.ready ++ x ∷ []) ≡ count_by (held_from b) d.ready + one (eqb (address_in x.client) b) = count-push (held_from b) d.ready x in
          let s : count_by (held_from b) (without_first (held_with q.key) d.waiting) + one (eqb (address_in x.client) b) ≡ count_by (held_from b) d.waiting = count_without (held_with q.key) (held_from b) d.waiting x e in
          omega (arith, h, m, n, s)

      places : inside (state d.limits rest (d.ready ++ x ∷ []) (without_first (held_with q.key) d.waiting)) ≤ d.limits.places
      places = let h : inside d ≤ d.limits.places = kept.places in let n : length (d.ready ++ x ∷ []) ≡ length d.ready + 1 = longer d.ready x in omega (arith, h, n, long)

      few : length (without_first (held_with q.key) d.waiting) ≤ d.limits.waiting
      few = let h : length d.waiting ≤ d.limits.waiting = kept.few in let s : length (without_first (held_with q.key) d.waiting) + 1 ≡ length d.waiting = length_without (held_with q.key) d.waiting x e in omega (arith, h, s)

      not_in_vain : (k : ℕ) → 0 < count_by (held_with k) (without_first (held_with q.key) d.waiting) → of_key k (state d.limits rest (d.ready ++ x ∷ []) (without_first (held_with q.key) d.waiting)) ≡ d.limits.equal
      not_in_vain k some =
          let s : count_by (held_with k) (without_first (held_with q.key) d.waiting) + one (eqb x.key k) ≡ count_by (held_with k) d.waiting = count_without (held_with q.key) (held_with k) d.waiting x e in
          let w : 0 < count_by (held_with k) d.waiting = omega (arith, some, s) in
          keys k ∙ kept.not_in_vain k w
