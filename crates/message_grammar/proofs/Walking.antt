-- A name that was written, as a walk over its labels: which of them stand there, and which are noted.
use Rattle.std.proofs.Common.{◌≡◌, ℕ, ◌+◌, ◌<◌, ◌≤◌, Bool, true, false, ◌⊎◌, inl, inr, List, [], ◌∷◌, ◌++◌, length, Option, Some, None, refl, sym, ap, subst, arith, length-append, append_assoc}
use Rattle.std.specs.Prelude.{slice_get, nat_lt, if◌then◌else◌}
use Rattle.std.specs.List.{AllByRecursion}
use Rattle.std.proofs.lemmas.Bool.Decides.{nat_tests}
use Rattle.dname.specs.Labels.{folded_label, folded_labels, wire, AreLabels, AreSpelled}
use Rattle.message_grammar.specs.Names.{IsLabelAt, IsPointerAt, as_written}
use Rattle.message_grammar.specs.Packing.{Note, find, pointer_or, packed, noted, notes_or, packed_notes, full_notes}
use Rattle.message_grammar.specs.Compression.{LabelsAt, IsWrittenFor}
use Rattle.message_grammar.proofs.Reading.{folded_long, one_label, no_label_at_root, no_pointer_at_label}
use Rattle.message_grammar.proofs.Growing.{get-grown, label-grown, pointer-grown}
use Rattle.message_grammar.proofs.Standing.{get_behind, label_behind, pointer_behind, found}

-- What stands where a suffix is written: a pointer where it was noted, else its first label and the rest.
abbrev pub Step : (List ℕ → List ℕ) → List ℕ → ℕ → List ℕ → Option ℕ → Type 0 → Type 0
Step f bytes at l None inner = (w : List ℕ) × IsLabelAt bytes at w × (l ≡ f w) × (length w ≡ length l) × inner
Step f bytes at l (Some place) inner = IsPointerAt bytes at place

-- A name is written from there on under these notes, its labels as `f` sees them.
abbrev pub Walks : (List ℕ → List ℕ) → List ℕ → List Note → ℕ → List (List ℕ) → Type 0
Walks f bytes notes at [] = ⊥
Walks f bytes notes at (l ∷ []) = (l ≡ []) × (slice_get bytes at ≡ Some 0)
Walks f bytes notes at (l ∷ m ∷ rest) = Step f bytes at l (find notes (l ∷ m ∷ rest)) (Walks f bytes notes (at + 1 + length l) (m ∷ rest))

-- ---- a name that was written walks

step-grown : (f : List ℕ → List ℕ) (bytes more : List ℕ) (at : ℕ) (l : List ℕ) (o : Option ℕ) (A B : Type 0) → (A → B) → Step f bytes at l o A
    → Step f (bytes ++ more) at l o B
step-grown f bytes more at l None A B go (w, here, seen, long, inner) = (w, label-grown bytes more at w here, seen, long, go inner)
step-grown f bytes more at l (Some p) A B go there = pointer-grown bytes more at p there

pub walks-grown : (f : List ℕ → List ℕ) (bytes more : List ℕ) (notes : List Note) (at : ℕ) (name : List (List ℕ)) → Walks f bytes notes at name
    → Walks f (bytes ++ more) notes at name
walks-grown f bytes more notes at [] h = h
walks-grown f bytes more notes at (l ∷ []) (e, z) = (e, get-grown bytes more at 0 z)
walks-grown f bytes more notes at (l ∷ m ∷ rest) h =
    step-grown f bytes more at l (find notes (l ∷ m ∷ rest)) _ _ (walks-grown f bytes more notes (at + 1 + length l) (m ∷ rest)) h

pub walks-along : (f : List ℕ → List ℕ) (bytes text : List ℕ) (notes : List Note) (at place : ℕ) (name : List (List ℕ)) → Walks f bytes notes at name → bytes ≡ text → at ≡ place
    → Walks f text notes place name
walks-along f bytes text notes at place name h b a =
    let P : List ℕ → Type 0 = λ x. Walks f x notes place name in
    let Q : ℕ → Type 0 = λ x. Walks f bytes notes x name in
    subst P b (subst Q a h)

-- Every place of a noted suffix is in a pointer's reach.
abbrev pub Reached : List Note → Type 0
Reached notes = AllByRecursion (λ (n : Note). n.place < 16384) notes

pub packed_walks : (notes : List Note) (name : List (List ℕ)) (pre : List ℕ) → Reached notes → AreLabels name
    → Walks as_written (pre ++ packed notes name) notes (length pre) name
packed_walks notes [] pre reach h = absurd h
packed_walks notes (l ∷ []) pre reach h = (h, get_behind pre [] 0)
packed_walks notes (l ∷ m ∷ rest) pre reach h =
    by (find notes (l ∷ m ∷ rest)) refl (packed_walks notes (m ∷ rest) (pre ++ length l ∷ l) reach h.1)
  where
    by : (o : Option ℕ) → find notes (l ∷ m ∷ rest) ≡ o
        → Walks as_written ((pre ++ length l ∷ l) ++ packed notes (m ∷ rest)) notes (length (pre ++ length l ∷ l)) (m ∷ rest)
        → Step as_written (pre ++ pointer_or o (length l ∷ (l ++ packed notes (m ∷ rest)))) (length pre) l o
        (Walks as_written (pre ++ pointer_or o (length l ∷ (l ++ packed notes (m ∷ rest)))) notes (length pre + 1 + length l) (m ∷ rest))
    by None e inner = (
      l,
      label_behind pre l (packed notes (m ∷ rest)) (h.0).nonempty (h.0).short,
      refl,
      refl,
      walks-along as_written _ _ notes _ _ (m ∷ rest) inner (append_assoc pre (length l ∷ l) (packed notes (m ∷ rest)))
          (omega (arith, length-append pre (length l ∷ l))),
    )
    by (Some p) e inner = pointer_behind pre p (found (λ n. n.place < 16384) notes (l ∷ m ∷ rest) p reach e)

pub full_walks : (labels : List (List ℕ)) (pre : List ℕ) → AreSpelled labels → Walks folded_label (pre ++ wire labels) [] (length pre) (folded_labels labels)
full_walks [] pre h = absurd h
full_walks (l ∷ []) pre h = (ap folded_label h, subst (λ (x : List ℕ). slice_get (pre ++ wire (x ∷ [])) (length pre) ≡ Some 0) (sym h) (get_behind pre [] 0))
full_walks (l ∷ m ∷ rest) pre (some, few, h) =
    let inner = full_walks (m ∷ rest) (pre ++ length l ∷ l) h in (
      l,
      label_behind pre l (wire (m ∷ rest)) some few,
      refl,
      sym (folded_long l),
      walks-along folded_label _ _ [] _ _ (folded_labels (m ∷ rest)) inner (append_assoc pre (length l ∷ l) (wire (m ∷ rest)))
          (omega (arith, length-append pre (length l ∷ l), folded_long l)),
    )

pub full_as_packed : (at : ℕ) (name : List (List ℕ)) → full_notes at name ≡ packed_notes [] at name
full_as_packed at [] = refl
full_as_packed at (l ∷ []) = refl
full_as_packed at (l ∷ m ∷ rest) = ap (noted (l ∷ m ∷ rest) at) (full_as_packed (at + 1 + length l) (m ∷ rest))

-- ---- what is noted is a label that was written

pub label_on : (bytes : List ℕ) (at next t : ℕ) (w : List ℕ) → IsLabelAt bytes at w → at + 1 + length w ≡ next → IsWrittenFor bytes next t → IsWrittenFor bytes at t
label_on bytes at next t w here e h = record {
  before = w ∷ h.before;
  row = (here, subst (λ (x : ℕ). LabelsAt bytes x h.before t) (sym e) h.row);
  label = h.label;
  here = h.here;
}

-- Each note of these stands where a label was written for the name that begins there.
abbrev pub AreWrittenFor : List ℕ → ℕ → List Note → Type 0
AreWrittenFor bytes name notes = AllByRecursion (λ (n : Note). IsWrittenFor bytes name n.place) notes

are_on : (bytes : List ℕ) (at next : ℕ) (w : List ℕ) (notes : List Note) → IsLabelAt bytes at w → at + 1 + length w ≡ next → AreWrittenFor bytes next notes
    → AreWrittenFor bytes at notes
are_on bytes at next w [] here e h = tt
are_on bytes at next w (n ∷ notes) here e (first, others) = (label_on bytes at next n.place w here e first, are_on bytes at next w notes here e others)

pub walk_written : (f : List ℕ → List ℕ) (bytes : List ℕ) (notes : List Note) (at : ℕ) (name : List (List ℕ)) → Walks f bytes notes at name
    → AreWrittenFor bytes at (packed_notes notes at name)
walk_written f bytes notes at [] h = absurd h
walk_written f bytes notes at (l ∷ []) h = tt
walk_written f bytes notes at (l ∷ m ∷ rest) h =
    by (find notes (l ∷ m ∷ rest)) h (walk_written f bytes notes (at + 1 + length l) (m ∷ rest))
  where
    later_notes : List Note
    later_notes = packed_notes notes (at + 1 + length l) (m ∷ rest)

    reach : (b : Bool) (w : List ℕ) → IsLabelAt bytes at w → AreWrittenFor bytes at later_notes
        → AreWrittenFor bytes at (if b then record { suffix = l ∷ m ∷ rest; place = at } ∷ later_notes else [])
    reach true w here later = (record { before = []; row = refl; label = w; here = here }, later)
    reach false w here later = tt

    by : (o : Option ℕ) → Step f bytes at l o (Walks f bytes notes (at + 1 + length l) (m ∷ rest))
        → (Walks f bytes notes (at + 1 + length l) (m ∷ rest) → AreWrittenFor bytes (at + 1 + length l) later_notes)
        → AreWrittenFor bytes at (notes_or o (noted (l ∷ m ∷ rest) at later_notes))
    by None (w, here, seen, long, inner) go =
        reach (nat_lt at 16384) w here (are_on bytes at (at + 1 + length l) w later_notes here (ap (λ x. at + 1 + x) long) (go inner))
    by (Some p) there go = tt

-- ---- every label that was written, and that a pointer reaches, is noted

-- A note is one of these.
abbrev pub Among : Note → List Note → Type 0
Among n [] = ⊥
Among n (x ∷ notes) = (x ≡ n) ⊎ Among n notes

-- One of the notes has this place.
pub record HasNote (notes : List Note) (place : ℕ) : Type 0 where
  pub note : Note
  pub in_row : Among note notes
  pub at : note.place ≡ place

-- The place of a label is the name's, or stands behind the first label.
written_cases : (bytes : List ℕ) (at t : ℕ) (w : List ℕ) → IsLabelAt bytes at w → IsWrittenFor bytes at t → (t ≡ at) ⊎ IsWrittenFor bytes (at + 1 + length w) t
written_cases bytes at t w here h = by h.before h.row
  where
    by : (before : List (List ℕ)) → LabelsAt bytes at before t → (t ≡ at) ⊎ IsWrittenFor bytes (at + 1 + length w) t
    by [] e = inl e
    by (v ∷ before) (first, others) =
        let same : length v ≡ length w = ap length (one_label bytes at at v w first here refl) in
        inr (record { before = before; row = subst (λ (x : ℕ). LabelsAt bytes (at + 1 + x) before t) same others; label = h.label; here = h.here })

-- A label of a name stands at its place, or behind it.
pub written_from : (bytes : List ℕ) (before : List (List ℕ)) (at t : ℕ) → LabelsAt bytes at before t → at ≤ t
written_from bytes [] at t e = omega arith
written_from bytes (l ∷ before) at t (first, others) = let k = written_from bytes before (at + 1 + length l) t others in omega arith

none_written : (bytes : List ℕ) (at t : ℕ) → ((w : List ℕ) → IsLabelAt bytes at w → ⊥) → IsWrittenFor bytes at t → ⊥
none_written bytes at t none h = by h.before h.row
  where
    by : (before : List (List ℕ)) → LabelsAt bytes at before t → ⊥
    by [] e = none h.label (subst (λ (x : ℕ). IsLabelAt bytes x h.label) e h.here)
    by (v ∷ before) (first, others) = none v first

pub walk_noted : (f : List ℕ → List ℕ) (bytes : List ℕ) (notes : List Note) (at t : ℕ) (name : List (List ℕ)) → Walks f bytes notes at name
    → IsWrittenFor bytes at t → t < 16384 → HasNote (packed_notes notes at name) t
walk_noted f bytes notes at t [] h is few = absurd h
walk_noted f bytes notes at t (l ∷ []) h is few = absurd (none_written bytes at t (λ w k. no_label_at_root bytes at at w h.1 k refl) is)
walk_noted f bytes notes at t (l ∷ m ∷ rest) h is few =
    by (find notes (l ∷ m ∷ rest)) h (λ inner k. walk_noted f bytes notes (at + 1 + length l) t (m ∷ rest) inner k few)
  where
    later_notes : List Note
    later_notes = packed_notes notes (at + 1 + length l) (m ∷ rest)

    reach : (b : Bool) → nat_lt at 16384 ≡ b → (t ≡ at) ⊎ HasNote later_notes t
        → HasNote (if b then record { suffix = l ∷ m ∷ rest; place = at } ∷ later_notes else []) t
    reach true test (inl e) = record { note = record { suffix = l ∷ m ∷ rest; place = at }; in_row = inl refl; at = sym e }
    reach true test (inr found) = record { note = found.note; in_row = inr found.in_row; at = found.at }
    reach false test k = absurd (let from = written_from bytes is.before at t is.row in grind (arith, nat_tests))

    either : (w : List ℕ) → length w ≡ length l → (IsWrittenFor bytes (at + 1 + length l) t → HasNote later_notes t)
        → (t ≡ at) ⊎ IsWrittenFor bytes (at + 1 + length w) t → (t ≡ at) ⊎ HasNote later_notes t
    either w long go (inl e) = inl e
    either w long go (inr k) = inr (go (subst (λ (x : ℕ). IsWrittenFor bytes (at + 1 + x) t) long k))

    by : (o : Option ℕ) → Step f bytes at l o (Walks f bytes notes (at + 1 + length l) (m ∷ rest))
        → (Walks f bytes notes (at + 1 + length l) (m ∷ rest) → IsWrittenFor bytes (at + 1 + length l) t → HasNote later_notes t)
        → HasNote (notes_or o (noted (l ∷ m ∷ rest) at later_notes)) t
    by None (w, here, seen, long, inner) go = reach (nat_lt at 16384) refl (either w long (go inner) (written_cases bytes at t w here is))
    by (Some p) there go = absurd (none_written bytes at t (λ w k. no_pointer_at_label bytes at at p w k there refl) is)
