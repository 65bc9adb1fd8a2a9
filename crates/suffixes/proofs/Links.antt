-- The paths of the notes: what is left of them when a note is put behind the others, and when it is put on its path.
use Rattle.std.proofs.Common.{◌≡◌, ◌≢◌, ℕ, zero, suc, ◌+◌, ◌-◌, ◌<◌, ◌≤◌, List, [], ◌∷◌, ◌++◌, length, set, map, drop, get_or, refl, sym, ◌∙◌, ap, subst, arith, length-append, ◌⊎◌, inl, inr}
use Rattle.std.proofs.lemmas.Bool.{cases_lt}
use Rattle.std.proofs.lemmas.Bool.Decides.{eqb_tells}
use Rattle.std.proofs.lemmas.Grind.{get_or-set_at}
use Rattle.std.proofs.lemmas.List.{map-append, length-map, map-set, length-replicate, get_or_append_left, get_or-map, get_or-set_other, length-set, length-drop, length-take}
use Rattle.std.proofs.lemmas.List.Elements.{All-get_or}
use Rattle.std.proofs.Math.ListN.{get_or-eq_default}
use Rattle.std.proofs.Math.Nat.{eq-or-lt_of_le}
use Rattle.std.proofs.Math.Seq.{get_or-append_seam, map-set_same}
use Rattle.std.specs.Prelude.{replicate, slice_index}
use Rattle.suffixes.specs.declared.earlier.Noted.{Noted}
use Rattle.suffixes.specs.Kept.{kept_bytes, texts_of, note_of, notes_of, IsKept, AreKept, size_at}
use Rattle.suffixes.specs.Branches.{branch, next_of, passed, AreLinked, AreFirsts, IsReached, IsPut, ArePut, IsMissed, EndsAt, EndsBehind}

abbrev pub nexts : List Noted → List (List ℕ)
nexts notes = map (λ n. n.next) notes

pub zero_at : (k w : ℕ) → slice_index (replicate k 0) w ≡ 0
zero_at zero w = refl
zero_at (suc k) zero = refl
zero_at (suc k) (suc w) = zero_at k w

-- ---- no notes

next_none : (n w : ℕ) → next_of [] n w ≡ 0
next_none zero w = refl
next_none (suc k) w = refl

none_linked : AreLinked []
none_linked = record {
  later = λ n w l. let e = next_none n w in absurd (omega arith);
  within = λ n w. let e = next_none n w in omega arith;
}

pub empty_put : (firsts : List ℕ) → length firsts ≡ 256 → ((z : ℕ) → slice_index firsts z ≡ 0) → ArePut [] [] firsts
empty_put firsts sizes zeros = record {
  linked = none_linked;
  table = record {
    sizes = sizes;
    has = λ z l. let e = zeros z in absurd (omega arith);
    within = λ z. let e = zeros z in omega arith;
  };
  reached = λ k h. absurd (omega arith);
}

pub none_put : ArePut [] [] (replicate 256 0)
none_put = empty_put (replicate 256 0) (length-replicate {A = ℕ} 256 0) (zero_at 256)

-- ---- a path

next_some : (notes : List Noted) (n w : ℕ) → 0 < next_of notes n w → 0 < n
next_some notes zero w l = absurd (omega arith)
next_some notes (suc n) w l = omega arith

-- A path that has ended leads to no other note.
pub passed_ended : (notes : List Noted) (s : List ℕ) (first depth more : ℕ) → passed notes s first depth ≡ 0 → passed notes s first (depth + more) ≡ 0
passed_ended notes s first depth zero e = let same : depth + 0 ≡ depth = omega arith in ap (passed notes s first) same ∙ e
passed_ended notes s first depth (suc more) e =
    let same : depth + suc more ≡ suc (depth + more) = omega arith in
    ap (passed notes s first) same ∙ ap (λ n. next_of notes n (branch s (depth + more))) (passed_ended notes s first depth more e)

-- A path leads to later and later notes.
pub passed_later : (notes : List Noted) (s : List ℕ) (first depth more : ℕ) → AreLinked notes → 0 < passed notes s first (depth + more)
    → passed notes s first depth ≤ passed notes s first (depth + more)
passed_later notes s first depth zero h l = let same : depth + 0 ≡ depth = omega arith in let e = ap (passed notes s first) same in omega arith
passed_later notes s first depth (suc more) h l =
    let same : depth + suc more ≡ suc (depth + more) = omega arith in
    let e = ap (passed notes s first) same in
    let some : 0 < next_of notes (passed notes s first (depth + more)) (branch s (depth + more)) = omega arith in
    let before = passed_later notes s first depth more h (next_some notes (passed notes s first (depth + more)) (branch s (depth + more)) some) in
    let on = h.later (passed notes s first (depth + more)) (branch s (depth + more)) some in
    omega arith

passed_first : (notes : List Noted) (s : List ℕ) (first depth : ℕ) → 0 < passed notes s first depth → 0 < first
passed_first notes s first zero l = l
passed_first notes s first (suc depth) l = passed_first notes s first depth (next_some notes (passed notes s first depth) (branch s depth) l)

-- Branches that there were are still there.
abbrev pub AreMore : List Noted → List Noted → Type 0
AreMore notes new = (n w : ℕ) → 0 < next_of notes n w → next_of new n w ≡ next_of notes n w

passed_still : (notes new : List Noted) (s : List ℕ) (first depth : ℕ) → AreMore notes new → 0 < passed notes s first depth → passed new s first depth ≡ passed notes s first depth
passed_still notes new s first zero h l = refl
passed_still notes new s first (suc depth) h l =
    let before = next_some notes (passed notes s first depth) (branch s depth) l in
    ap (λ n. next_of new n (branch s depth)) (passed_still notes new s first depth h before) ∙ h (passed notes s first depth) (branch s depth) l

-- ---- a note put behind the others, whose branches lead to none

next_behind : (notes : List Noted) (x : Noted) (n w : ℕ) → x.next ≡ replicate 4 0 → next_of (notes ++ x ∷ []) n w ≡ next_of notes n w
next_behind notes x zero w e = refl
next_behind notes x (suc k) w e =
    let all : length (nexts notes) ≡ length notes = length-map notes (λ (n : Noted). n.next) in
    let split : next_of (notes ++ x ∷ []) (suc k) w ≡ slice_index (get_or (nexts notes ++ x.next ∷ []) k []) w =
    ap (λ l. slice_index (get_or l k []) w) (map-append (λ (n : Noted). n.next) notes (x ∷ [])) in
    split ∙ elim (cases_lt k (length notes)) [
      | inl less ↦ ap (λ l. slice_index l w) (get_or_append_left (nexts notes) (x.next ∷ []) [] k (omega arith))
      | inr most ↦ elim (eq-or-lt_of_le most) [
        | inl same ↦ (
            let at : k ≡ length (nexts notes) = omega arith in
            let here : get_or (nexts notes ++ x.next ∷ []) k [] ≡ x.next = ap (λ j. get_or (nexts notes ++ x.next ∷ []) j []) at ∙ get_or-append_seam (nexts notes) x.next [] [] in
            let out : get_or (nexts notes) k [] ≡ [] = get_or-eq_default (nexts notes) [] (omega arith) in
            ap (λ l. slice_index l w) (here ∙ e) ∙ (zero_at 4 w ∙ sym (ap (λ l. slice_index l w) out)))
        | inr more ↦ (
            let longer : length (nexts notes ++ x.next ∷ []) ≡ length (nexts notes) + 1 = length-append (nexts notes) (x.next ∷ []) in
            let a : get_or (nexts notes ++ x.next ∷ []) k [] ≡ [] = get_or-eq_default (nexts notes ++ x.next ∷ []) [] (omega arith) in
            let b : get_or (nexts notes) k [] ≡ [] = get_or-eq_default (nexts notes) [] (omega arith) in
            ap (λ l. slice_index l w) (a ∙ sym b))
      ]
    ]

passed_behind : (notes : List Noted) (x : Noted) (s : List ℕ) (first depth : ℕ) → x.next ≡ replicate 4 0 → passed (notes ++ x ∷ []) s first depth ≡ passed notes s first depth
passed_behind notes x s first zero e = refl
passed_behind notes x s first (suc depth) e =
    ap (λ n. next_of (notes ++ x ∷ []) n (branch s depth)) (passed_behind notes x s first depth e) ∙ next_behind notes x (passed notes s first depth) (branch s depth) e

pub put_behind : (names : List ℕ) (notes new : List Noted) (firsts : List ℕ) (x : Noted) → ArePut names notes firsts → x.next ≡ replicate 4 0 → new ≡ notes ++ x ∷ []
    → IsPut (texts_of names new) new firsts (length notes)
put_behind names notes new firsts x h e put = subst (λ (l : List Noted). IsPut (texts_of names l) l firsts (length notes)) (sym put) (record {
  linked = record {
    later = λ n w l. let same = next_behind notes x n w e in let on = h.linked.later n w (omega arith) in omega arith;
    within = λ n w. let same = next_behind notes x n w e in let on = h.linked.within n w in omega (arith, longer);
  };
  table = record {
    sizes = h.table.sizes;
    has = λ z l. let within = h.table.within z in size_still (slice_index firsts z - 1) (omega arith) ∙ h.table.has z l;
    within = λ z. let within = h.table.within z in omega (arith, longer);
  };
  reached = λ k less. subst (λ (b : List ℕ). IsReached (texts_of names (notes ++ x ∷ [])) (notes ++ x ∷ []) firsts k b) (sym (text_still k less)) (reached_still k less (h.reached k less));
})
  where
    longer : length (notes ++ x ∷ []) ≡ length notes + 1
    longer = length-append notes (x ∷ [])

    size_still : (k : ℕ) → k < length notes → size_at (notes ++ x ∷ []) k ≡ size_at notes k
    size_still k less =
        let all : length (map (λ (n : Noted). n.size) notes) ≡ length notes = length-map notes (λ (n : Noted). n.size) in
        ap (λ l. slice_index l k) (map-append (λ (n : Noted). n.size) notes (x ∷ [])) ∙ get_or_append_left (map (λ (n : Noted). n.size) notes) (x.size ∷ []) 0 k (omega arith)

    text_still : (k : ℕ) → k < length notes → get_or (texts_of names (notes ++ x ∷ [])) k [] ≡ get_or (texts_of names notes) k []
    text_still k less =
        let all : length (texts_of names notes) ≡ length notes = length-map notes (kept_bytes names) in
        ap (λ l. get_or l k []) (map-append (kept_bytes names) notes (x ∷ [])) ∙ get_or_append_left (texts_of names notes) (kept_bytes names x ∷ []) [] k (omega arith)

    reached_still : (k : ℕ) → k < length notes → IsReached (texts_of names notes) notes firsts k (get_or (texts_of names notes) k [])
        → IsReached (texts_of names (notes ++ x ∷ [])) (notes ++ x ∷ []) firsts k (get_or (texts_of names notes) k [])
    reached_still k less r =
        let early = r.early in
        record {
          index = r.index;
          depth = r.depth;
          early = early;
          same = text_still r.index (omega arith) ∙ r.same;
          stands = passed_behind notes x (get_or (texts_of names notes) k []) (slice_index firsts (length (get_or (texts_of names notes) k []))) r.depth e ∙ r.stands;
        }

-- ---- a note put on its path

-- One more note is reached, and branches and beginnings that there were are still there.
one_more_put : (texts : List (List ℕ)) (notes new : List Noted) (firsts told : List ℕ) (count : ℕ) → AreLinked new → AreFirsts new told → AreMore notes new
    → ((z : ℕ) → 0 < slice_index firsts z → slice_index told z ≡ slice_index firsts z) → IsReached texts new told count (get_or texts count []) → IsPut texts notes firsts count
    → IsPut texts new told (suc count)
one_more_put texts notes new firsts told count linked table more begins last h = record {
  linked = linked;
  table = table;
  reached = λ k less. elim (cases_lt k count) [
    | inl before ↦ still k (h.reached k before)
    | inr most ↦ (let at : count ≡ k = omega arith in subst (λ (j : ℕ). IsReached texts new told j (get_or texts j [])) at last)
  ];
}
  where
    still : (k : ℕ) → IsReached texts notes firsts k (get_or texts k []) → IsReached texts new told k (get_or texts k [])
    still k r =
        let bytes = get_or texts k [] in
        let stands = r.stands in
        let some : 0 < passed notes bytes (slice_index firsts (length bytes)) r.depth = omega arith in
        let begin = begins (length bytes) (passed_first notes bytes (slice_index firsts (length bytes)) r.depth some) in
        let early = r.early in
        record {
          index = r.index;
          depth = r.depth;
          early = early;
          same = r.same;
          stands = ap (λ f. passed new bytes f r.depth) begin ∙ (passed_still notes new bytes (slice_index firsts (length bytes)) r.depth more some ∙ r.stands);
        }

-- An earlier note of the same suffix stands there.
pub linked_at : (texts : List (List ℕ)) (notes : List Noted) (firsts suffix : List ℕ) (n : ℕ) → 0 < length notes → get_or texts (length notes - 1) [] ≡ suffix
    → IsPut texts notes firsts (length notes - 1) → EndsAt texts notes (slice_index firsts (length suffix)) suffix n → IsPut texts notes firsts (length notes)
linked_at texts notes firsts suffix n some last h end =
    let least = end.some in
    let within = end.within in
    let all : suc (length notes - 1) ≡ length notes = omega arith in
    let number : n ≡ suc (n - 1) = omega arith in
    let reached : IsReached texts notes firsts (length notes - 1) suffix = record {
      index = n - 1;
      depth = end.depth;
      early = omega arith;
      same = end.here;
      stands = end.comes ∙ number;
    } in
    subst (λ (c : ℕ). IsPut texts notes firsts c) all
    (one_more_put texts notes notes firsts firsts (length notes - 1) h.linked h.table (λ n w l. refl) (λ z l. refl)
    (subst (λ (b : List ℕ). IsReached texts notes firsts (length notes - 1) b) (sym last) reached) h)

-- It is the first of its size.
pub linked_first : (texts : List (List ℕ)) (notes : List Noted) (firsts suffix : List ℕ) (number : ℕ) → 0 < length notes → length suffix < 256 → get_or texts (length notes - 1) [] ≡ suffix
    → size_at notes (length notes - 1) ≡ length suffix → number ≡ length notes → IsPut texts notes firsts (length notes - 1) → slice_index firsts (length suffix) ≡ 0
    → IsPut texts notes (set firsts (length suffix) number) (length notes)
linked_first texts notes firsts suffix number some short last sized is h none =
    let all : suc (length notes - 1) ≡ length notes = omega arith in
    let sizes = h.table.sizes in
    let told = set firsts (length suffix) number in
    let at : slice_index told (length suffix) ≡ number = get_or-set_at firsts (length suffix) (length suffix) number 0 refl (omega arith) in
    let number_is : number ≡ suc (length notes - 1) = omega arith in
    let reached : IsReached texts notes told (length notes - 1) suffix = record {
      index = length notes - 1;
      depth = 0;
      early = omega arith;
      same = last;
      stands = at ∙ number_is;
    } in
    let either : (z : ℕ) → ((z ≡ length suffix) × (slice_index told z ≡ number)) ⊎ (slice_index told z ≡ slice_index firsts z) = λ z. elim (eqb_tells z (length suffix)) [
      | inl same ↦ inl (same.1, get_or-set_at firsts (length suffix) z number 0 same.1 (omega arith))
      | inr other ↦ inr (get_or-set_other firsts (length suffix) z number 0 other.1)
    ] in
    let table : AreFirsts notes told = record {
      sizes = length-set firsts (length suffix) number ∙ h.table.sizes;
      has = λ z l. elim (either z) [
        | inl here ↦ (let e : slice_index told z - 1 ≡ length notes - 1 = (let v = here.1 in omega arith) in ap (size_at notes) e ∙ (sized ∙ sym here.0))
        | inr same ↦ ap (λ n. size_at notes (n - 1)) same ∙ h.table.has z (omega arith)
      ];
      within = λ z. elim (either z) [
        | inl here ↦ (let v = here.1 in omega arith)
        | inr same ↦ (let w = h.table.within z in omega arith)
      ];
    } in
    subst (λ (c : ℕ). IsPut texts notes told c) all
    (one_more_put texts notes notes firsts told (length notes - 1) h.linked table (λ n w l. refl) (λ z l. elim (either z) [
      | inl here ↦ (let e = ap (slice_index firsts) here.0 in absurd (omega arith))
      | inr same ↦ same
    ]) (subst (λ (b : List ℕ). IsReached texts notes told (length notes - 1) b) (sym last) reached) h)

-- What a branch leads to when one at a note is set.
next_set : (notes : List Noted) (k w number : ℕ) (y : Noted) → k < length notes → w < length (get_or (nexts notes) k []) → y.next ≡ set (get_or (nexts notes) k []) w number → (n v : ℕ)
    → ((n ≡ suc k) × ((v ≡ w) × (next_of (set notes k y) n v ≡ number))) ⊎ (next_of (set notes k y) n v ≡ next_of notes n v)
next_set notes k w number y less few is zero v = inr refl
next_set notes k w number y less few is (suc m) v =
    let all : length (nexts notes) ≡ length notes = length-map notes (λ (n : Noted). n.next) in
    let moved : next_of (set notes k y) (suc m) v ≡ slice_index (get_or (set (nexts notes) k y.next) m []) v =
    ap (λ l. slice_index (get_or l m []) v) (map-set (λ (n : Noted). n.next) notes k y) in
    elim (eqb_tells m k) [
      | inl same ↦ (
          let here : next_of (set notes k y) (suc m) v ≡ slice_index (set (get_or (nexts notes) k []) w number) v =
          moved ∙ ap (λ l. slice_index l v) (get_or-set_at (nexts notes) k m y.next [] same.1 (omega arith) ∙ is) in
          elim (eqb_tells v w) [
            | inl at ↦ inl (ap suc same.1, (at.1, here ∙ get_or-set_at (get_or (nexts notes) k []) w v number 0 at.1 few))
            | inr off ↦ inr (here ∙ (get_or-set_other (get_or (nexts notes) k []) w v number 0 off.1 ∙ ap (λ j. slice_index (get_or (nexts notes) j []) v) (sym same.1)))
          ])
      | inr other ↦ inr (moved ∙ ap (λ l. slice_index l v) (get_or-set_other (nexts notes) k m y.next [] other.1))
    ]

next_set_here : (notes : List Noted) (k w number : ℕ) (y : Noted) → k < length notes → w < length (get_or (nexts notes) k []) → y.next ≡ set (get_or (nexts notes) k []) w number
    → next_of (set notes k y) (suc k) w ≡ number
next_set_here notes k w number y less few is =
    let all : length (nexts notes) ≡ length notes = length-map notes (λ (n : Noted). n.next) in
    ap (λ l. slice_index (get_or l k []) w) (map-set (λ (n : Noted). n.next) notes k y)
    ∙ (ap (λ l. slice_index l w) (get_or-set_at (nexts notes) k k y.next [] refl (omega arith) ∙ is) ∙ get_or-set_at (get_or (nexts notes) k []) w w number 0 refl few)

-- It stands behind the last note on its path.
pub linked_behind : (names : List ℕ) (notes : List Noted) (firsts suffix : List ℕ) (n w number : ℕ) (y : Noted) → get_or (texts_of names notes) (length notes - 1) [] ≡ suffix
    → number ≡ length notes → kept_bytes names y ≡ get_or (texts_of names notes) (n - 1) [] → y.size ≡ size_at notes (n - 1)
    → w < length (get_or (nexts notes) (n - 1) []) → y.next ≡ set (get_or (nexts notes) (n - 1) []) w number
    → IsPut (texts_of names notes) notes firsts (length notes - 1) → EndsBehind (texts_of names notes) notes (slice_index firsts (length suffix)) suffix n w
    → IsPut (texts_of names (set notes (n - 1) y)) (set notes (n - 1) y) firsts (length (set notes (n - 1) y))
linked_behind names notes firsts suffix n w number y last is bytes sized few next h end =
    let some = end.some in
    let within = end.within in
    let texts = texts_of names notes in
    let new = set notes (n - 1) y in
    let texts_are : texts_of names new ≡ texts = map-set_same (kept_bytes names) notes (n - 1) y blank (bytes ∙ text_at (n - 1) (omega arith)) in
    let count : length new ≡ length notes = length-set notes (n - 1) y in
    let number_is : suc (n - 1) ≡ n = omega arith in
    let either = next_set notes (n - 1) w number y (omega arith) few next in
    let differs : n ≢ length notes = λ e. (let at : length notes - 1 ≡ n - 1 = omega arith in
    end.missed end.depth (n - 1) (omega arith) (end.comes ∙ sym number_is) (ap (λ j. get_or texts j []) (sym at) ∙ last)) in
    let before : n < length notes = elim (eq-or-lt_of_le within) [ inl same ↦ absurd (differs same) | inr less ↦ less ] in
    let more : AreMore notes new = λ m v l. elim (either m v) [
      | inl here ↦ (let e : next_of notes m v ≡ 0 = (λ i. next_of notes ((here.0 ∙ number_is) i) (here.1.0 i)) ∙ end.none in absurd (omega arith))
      | inr same ↦ same
    ] in
    let linked : AreLinked new = record {
      later = λ m v l. elim (either m v) [
        | inl here ↦ (let a = here.0 in let b = here.1.1 in omega arith)
        | inr same ↦ (let on = h.linked.later m v (omega arith) in omega arith)
      ];
      within = λ m v. elim (either m v) [
        | inl here ↦ (let b = here.1.1 in omega arith)
        | inr same ↦ (let on = h.linked.within m v in omega arith)
      ];
    } in
    let sizes_are : map (λ (n : Noted). n.size) new ≡ map (λ (n : Noted). n.size) notes = map-set_same (λ (n : Noted). n.size) notes (n - 1) y blank (sized ∙ size_blank (n - 1) (omega arith)) in
    let table : AreFirsts new firsts = record {
      sizes = h.table.sizes;
      has = λ z l. ap (λ s. slice_index s (slice_index firsts z - 1)) sizes_are ∙ h.table.has z l;
      within = λ z. let w = h.table.within z in omega arith;
    } in
    let comes : passed new suffix (slice_index firsts (length suffix)) end.depth ≡ n =
    passed_still notes new suffix (slice_index firsts (length suffix)) end.depth more (let e = end.comes in omega arith) ∙ end.comes in
    let at : next_of new n w ≡ number = ap (λ m. next_of new m w) (sym number_is) ∙ next_set_here notes (n - 1) w number y (omega arith) few next in
    let reached : IsReached texts new firsts (length notes - 1) suffix = record {
      index = length notes - 1;
      depth = suc end.depth;
      early = omega arith;
      same = last;
      stands = (λ i. next_of new (comes i) (sym end.takes i)) ∙ (at ∙ (is ∙ (let e : length notes ≡ suc (length notes - 1) = omega arith in e)));
    } in
    let all : suc (length notes - 1) ≡ length new = omega arith in
    subst (λ (t : List (List ℕ)). IsPut t new firsts (length new)) (sym texts_are) (subst (λ (c : ℕ). IsPut texts new firsts c) all
    (one_more_put texts notes new firsts firsts (length notes - 1) linked table more (λ z l. refl)
    (subst (λ (b : List ℕ). IsReached texts new firsts (length notes - 1) b) (sym last) reached) h))
  where
    blank : Noted
    blank = record { start = 0; size = 0; place = 0; next = [] }

    text_at : (k : ℕ) → k < length notes → get_or (texts_of names notes) k [] ≡ kept_bytes names (get_or notes k blank)
    text_at k less = get_or-map (kept_bytes names) notes k blank [] less

    size_blank : (k : ℕ) → k < length notes → size_at notes k ≡ (get_or notes k blank).size
    size_blank k less = get_or-map (λ (n : Noted). n.size) notes k blank 0 less

abbrev pub blank : Noted
blank = record { start = 0; size = 0; place = 0; next = [] }

-- A note of which one branch leads to another.
abbrev pub led : Noted → ℕ → ℕ → Noted
led x w number = record { start = x.start; size = x.size; place = x.place; next = set x.next w number }

pub led_put : (names : List ℕ) (notes : List Noted) (firsts suffix : List ℕ) (n w : ℕ) → AreKept names notes → get_or (texts_of names notes) (length notes - 1) [] ≡ suffix → w < 4
    → IsPut (texts_of names notes) notes firsts (length notes - 1) → EndsBehind (texts_of names notes) notes (slice_index firsts (length suffix)) suffix n w
    → ArePut names (set notes (n - 1) (led (get_or notes (n - 1) blank) w (length notes))) firsts
led_put names notes firsts suffix n w kept last few h end =
    let some = end.some in
    let within = end.within in
    let less : n - 1 < length notes = omega arith in
    let nexts_are = get_or-map (λ (n : Noted). n.next) notes (n - 1) blank [] less in
    let is : IsKept names (get_or notes (n - 1) blank) = All-get_or (IsKept names) notes (n - 1) blank less kept in
    let four = is.branches in
    let size = ap length nexts_are in
    linked_behind names notes firsts suffix n w (length notes) (led (get_or notes (n - 1) blank) w (length notes)) last refl (sym (get_or-map (kept_bytes names) notes (n - 1) blank [] less))
    (sym (get_or-map (λ (n : Noted). n.size) notes (n - 1) blank 0 less)) (omega arith) (ap (λ l. set l w (length notes)) (sym nexts_are)) h end

pub led_notes : (names : List ℕ) (notes : List Noted) (n w number : ℕ) → notes_of names (set notes (n - 1) (led (get_or notes (n - 1) blank) w number)) ≡ notes_of names notes
led_notes names notes n w number = map-set_same (note_of names) notes (n - 1) (led (get_or notes (n - 1) blank) w number) blank refl

-- The size of the last note is that of its bytes.
pub last_size : (names : List ℕ) (notes : List Noted) (suffix : List ℕ) → AreKept names notes → 0 < length notes → get_or (texts_of names notes) (length notes - 1) [] ≡ suffix
    → size_at notes (length notes - 1) ≡ length suffix
last_size names notes suffix kept some last =
    let k = length notes - 1 in
    let less : k < length notes = omega arith in
    let x : Noted = get_or notes k blank in
    let is : IsKept names x = All-get_or (IsKept names) notes k blank less kept in
    let fits = is.fits in
    let size : length (kept_bytes names x) ≡ x.size = omega (arith, length-take x.size (drop x.start names), length-drop x.start names) in
    get_or-map (λ (n : Noted). n.size) notes k blank 0 less ∙ (sym size ∙ (ap length (sym (get_or-map (kept_bytes names) notes k blank [] less)) ∙ ap length last))

-- All notes but the last.
pub counted : (texts : List (List ℕ)) (notes new : List Noted) (firsts : List ℕ) (x : Noted) → new ≡ notes ++ x ∷ [] → IsPut texts new firsts (length notes) → IsPut texts new firsts (length new - 1)
counted texts notes new firsts x put h =
    let all = ap length put ∙ length-append notes (x ∷ []) in
    let same : length notes ≡ length new - 1 = omega arith in
    subst (λ (c : ℕ). IsPut texts new firsts c) same h
