-- Addresses seen: in a set by the order of their bytes, and in the lists that it stands for.
use Rattle.std.proofs.Common.{◌≡◌, ℕ, ◌+◌, ◌<◌, Bool, true, false, cond, not, ◌||◌, List, [], ◌∷◌, ◌++◌, length, take, filter, get_or, refl, sym, ap, ◌∙◌}
use Rattle.std.specs.Ordering.{nat_cmp, is_eq}
use Rattle.std.specs.Cmp.Lexicographic.{slice_cmp, texts_ties}
use Rattle.std.specs.BTreeSet.{BTreeSet, contains}
use Rattle.std.proofs.lemmas.List.{append_assoc, take_more}
use Rattle.rdata.specs.declared.addr.Addr.{Addr}
use Rattle.retry.specs.Penalties.{same_addr}
use Rattle.frames.specs.Frames.{has_address, each_once}
use Rattle.frames.specs.Seen.{AreSeen}
use Rattle.frames.proofs.Members.{by_test, true_or_false, other_or, one_or, same_flip, has_in, in_has, filter_from, filter_there}
use Rattle.frames.proofs.Once.{once_from, once_there, found_known, found_there, found_new}

grouped : (a b c : Bool) → (a || (b || c)) ≡ (a || b || c)
grouped true b c = refl
grouped false b c = refl

has_both : (xs ys : List Addr) (a : Addr) → has_address (xs ++ ys) a ≡ (has_address xs a || has_address ys a)
has_both [] ys a = refl
has_both (x ∷ xs) ys a = ap (λ (b : Bool). same_addr a x || b) (has_both xs ys a) ∙ grouped (same_addr a x) (has_address xs a) (has_address ys a)

first_or_last : (s h : Bool) → cond s true h ≡ (h || (s || false))
first_or_last true true = refl
first_or_last true false = refl
first_or_last false true = refl
first_or_last false false = refl

-- ---- the set

seen_more : (old new : BTreeSet (List ℕ)) (xs : List Addr) (a : Addr) → AreSeen old xs
    → ((bytes : List ℕ) → contains (slice_cmp nat_cmp) new bytes ≡ cond (is_eq (slice_cmp nat_cmp a.0 bytes)) true (contains (slice_cmp nat_cmp) old bytes)) → AreSeen new (xs ++ a ∷ [])
seen_more old new xs a h updates bytes =
    let b : Addr = record { 0 = bytes } in
    updates bytes
    ∙ (ap (λ (s : Bool). cond s true (contains (slice_cmp nat_cmp) old bytes)) (sym (texts_ties a.0 bytes) ∙ same_flip a b)
    ∙ (ap (cond (same_addr b a) true) (h bytes)
    ∙ (first_or_last (same_addr b a) (has_address xs b) ∙ sym (has_both xs (a ∷ []) b))))

-- One address more of a list.
pub seen_next : (old new : BTreeSet (List ℕ)) (xs : List Addr) (i : ℕ) (d : Addr) → i < length xs → AreSeen old (take i xs)
    → ((bytes : List ℕ) → contains (slice_cmp nat_cmp) new bytes ≡ cond (is_eq (slice_cmp nat_cmp (get_or xs i d).0 bytes)) true (contains (slice_cmp nat_cmp) old bytes)) → AreSeen new (take (i + 1) xs)
seen_next old new xs i d lt h updates bytes =
    seen_more old new (take i xs) (get_or xs i d) h updates bytes ∙ ap (λ (l : List Addr). has_address l (record { 0 = bytes })) (sym (take_more xs i d lt))

pub seen_next_behind : (old new : BTreeSet (List ℕ)) (known found : List Addr) (i : ℕ) (d : Addr) → i < length found → AreSeen old (known ++ take i found)
    → ((bytes : List ℕ) → contains (slice_cmp nat_cmp) new bytes ≡ cond (is_eq (slice_cmp nat_cmp (get_or found i d).0 bytes)) true (contains (slice_cmp nat_cmp) old bytes)) → AreSeen new (known ++ take (i + 1) found)
seen_next_behind old new known found i d lt h updates bytes =
    seen_more old new (known ++ take i found) (get_or found i d) h updates bytes
    ∙ ap (λ (l : List Addr). has_address l (record { 0 = bytes })) (append_assoc known (take i found) (get_or found i d ∷ []) ∙ ap (λ (l : List Addr). known ++ l) (sym (take_more found i d lt)))

-- ---- what is fresh

module _ (known xs : List Addr) (y : Addr) (fresh : List Addr) (so_far : fresh ≡ filter (λ a. not (has_address known a)) (each_once xs)) (new : has_address known y ≡ false) where
  to_found : has_address fresh y ≡ true → has_address xs y ≡ true
  to_found h = in_has xs y (once_from xs y (filter_from (λ a. not (has_address known a)) (each_once xs) y (has_in (filter (λ a. not (has_address known a)) (each_once xs)) y (ap (λ (l : List Addr). has_address l y) (sym so_far) ∙ h))).0)

  to_fresh : has_address xs y ≡ true → has_address fresh y ≡ true
  to_fresh h = ap (λ (l : List Addr). has_address l y) so_far
      ∙ in_has (filter (λ a. not (has_address known a)) (each_once xs)) y (filter_there (λ a. not (has_address known a)) (each_once xs) y (once_there xs y (has_in xs y h)) (ap not new))

opposite : (b c : Bool) → b ≡ not c → b ≡ true → c ≡ false
opposite b true e t = sym (sym e ∙ t)
opposite b false e t = refl

opposite_false : (b c : Bool) → b ≡ not c → b ≡ false → c ≡ true
opposite_false b true e t = refl
opposite_false b false e t = sym (sym e ∙ t)

module _ (known found : List Addr) (i : ℕ) (d : Addr) (fresh : List Addr) (lt : i < length found) (so_far : fresh ≡ filter (λ a. not (has_address known a)) (each_once (take i found)))
    (seen : BTreeSet (List ℕ)) (b : Bool) (all : AreSeen seen (known ++ take i found)) (added : b ≡ not (contains (slice_cmp nat_cmp) seen (get_or found i d).0)) where
  at : has_address (known ++ take i found) (get_or found i d) ≡ (has_address known (get_or found i d) || has_address (take i found) (get_or found i d))
  at = has_both known (take i found) (get_or found i d)

  told : b ≡ not (has_address (known ++ take i found) (get_or found i d))
  told = added ∙ ap not (all (get_or found i d).0)

  pub old_left_out : b ≡ false → fresh ≡ filter (λ a. not (has_address known a)) (each_once (take (i + 1) found))
  old_left_out t =
      let there = opposite_false b (has_address (known ++ take i found) (get_or found i d)) told t in
      by_test (has_address known (get_or found i d))
      (λ h. found_known known found i d fresh lt so_far (has_address known (get_or found i d)) refl h)
      (λ n. found_there known found i d fresh lt so_far fresh (has_address known (get_or found i d)) (has_address fresh (get_or found i d)) refl n refl refl
      (to_fresh known (take i found) (get_or found i d) fresh so_far n (sym (other_or (has_address (take i found) (get_or found i d)) n) ∙ (sym at ∙ there))))

  pub new_put : (new : List Addr) → b ≡ true → new ≡ fresh ++ get_or found i d ∷ [] → new ≡ filter (λ a. not (has_address known a)) (each_once (take (i + 1) found))
  new_put new t is =
      let absent = opposite b (has_address (known ++ take i found) (get_or found i d)) told t in
      let unknown : has_address known (get_or found i d) ≡ false = by_test (has_address known (get_or found i d)) (λ h. true_or_false (at ∙ one_or (has_address (take i found) (get_or found i d)) h) absent) (λ n. n) in
      let unfound : has_address (take i found) (get_or found i d) ≡ false = sym (other_or (has_address (take i found) (get_or found i d)) unknown) ∙ (sym at ∙ absent) in
      found_new known found i d fresh lt so_far fresh new (has_address known (get_or found i d)) (has_address fresh (get_or found i d)) refl unknown refl refl
      (by_test (has_address fresh (get_or found i d)) (λ h. true_or_false (to_found known (take i found) (get_or found i d) fresh so_far unknown h) unfound) (λ n. n)) is
