-- One step of a walk over a name, and of the notes of it.
use Rattle.std.proofs.Common.{◌≡◌, ℕ, zero, suc, ◌+◌, ◌-◌, ◌<◌, ◌≤◌, Bool, true, false, List, [], ◌∷◌, ◌++◌, length, take, drop, map, get_or, Option, Some, None, refl, sym, ◌∙◌, ap, subst, arith, append_assoc, length-append}
use Rattle.std.specs.Prelude.{if◌then◌else◌, nat_lt}
use Rattle.std.proofs.lemmas.Bool.Decides.{nat_tests}
use Rattle.std.proofs.lemmas.List.{append-nil, map-append, take-append-le, drop-append-le, drop-drop, length-drop, length-map}
use Rattle.std.proofs.lemmas.List.Elements.{All-nil, All-cons, All-head, All-tail, All-same, All-append}
use Rattle.std.proofs.Math.Seq.{drop-append_seam, drop-length, take-length, get_or-append_seam}
use Rattle.dname.specs.Labels.{root, wire, AreLabels, IsName}
use Rattle.dname.specs.Wire.{labels_of, IsWire, IsSplit}
use Rattle.dname.specs.Laws.{labels_of-wire}
use Rattle.dname.proofs.Split.{wire_is}
use Rattle.message_grammar.specs.Packing.{Note, find, noted}
use Rattle.suffixes.specs.declared.earlier.Found.{Found}
use Rattle.suffixes.specs.declared.earlier.Noted.{Noted}
use Rattle.suffixes.specs.Kept.{kept_bytes, texts_of, note_of, notes_of, IsKept, AreKept}
use Rattle.suffixes.specs.Branches.{IsPut, ArePut}
use Rattle.suffixes.specs.Longest.{one_more, here_or, longest, first_notes}

pub name_is_wire : (name : List (List ℕ)) (w : List ℕ) → IsName name → w ≡ wire name → IsWire w
name_is_wire name w h e = subst (λ (x : List ℕ). IsWire x) (sym e) (wire_is name h.labels)

pub name_labels : (name : List (List ℕ)) (w : List ℕ) → w ≡ wire name → labels_of w ≡ name
name_labels name w e = ap labels_of e ∙ labels_of-wire name

-- A suffix found behind so many labels and bytes.
abbrev pub moved : ℕ → ℕ → Option Found → Option Found
moved labels bytes None = None
moved labels bytes (Some f) = Some (record { labels = labels + f.labels; bytes = bytes + f.bytes; place = f.place })

longest_cons : (notes : List Note) (l : List ℕ) (ls : List (List ℕ)) → AreLabels ls
    → longest notes (l ∷ ls) ≡ here_or (find notes (l ∷ ls)) (one_more (length l) (longest notes ls))
longest_cons notes l [] h = absurd h
longest_cons notes l (m ∷ ls) h = refl

pub record Walked (notes : List Note) (name : List (List ℕ)) (rest : List ℕ) (labels bytes : ℕ) : Type 0 where
  pub form : IsWire rest
  pub so_far : longest notes name ≡ moved labels bytes (longest notes (labels_of rest))
  pub size : bytes + length rest ≡ length (wire name)
  pub count : labels + length (labels_of rest) ≡ length name
  pub few : labels ≤ bytes
  pub short : length (wire name) ≤ 255

zero_left : (n : ℕ) → 0 + n ≡ n
zero_left n = omega arith

zero_right : (n : ℕ) → n + 0 ≡ n
zero_right n = omega arith

moved_none : (o : Option Found) → moved 0 0 o ≡ o
moved_none None = refl
moved_none (Some f) = λ i. Some (record { labels = zero_left f.labels i; bytes = zero_left f.bytes i; place = f.place })

moved_more : (labels bytes size : ℕ) (o : Option Found) → moved labels bytes (one_more size o) ≡ moved (labels + 1) (bytes + (1 + size)) o
moved_more labels bytes size None = refl
moved_more labels bytes size (Some f) =
    let a : labels + (f.labels + 1) ≡ labels + 1 + f.labels = omega arith in
    let b : bytes + (f.bytes + 1 + size) ≡ bytes + (1 + size) + f.bytes = omega arith in
    λ i. Some (record { labels = a i; bytes = b i; place = f.place })

pub walk_begins : (notes : List Note) (name : List (List ℕ)) (w : List ℕ) → IsName name → w ≡ wire name → Walked notes name w 0 0
walk_begins notes name w h e =
    let labels = name_labels name w e in
    let s = h.short in
    record {
      form = name_is_wire name w h e;
      so_far = sym (moved_none (longest notes (labels_of w)) ∙ ap (longest notes) labels);
      size = omega (arith, ap length e);
      count = omega (arith, ap length labels);
      few = omega arith;
      short = s;
    }

pub walk_on : (notes : List Note) (name : List (List ℕ)) (rest label after : List ℕ) (labels bytes : ℕ) (o : Option ℕ) → Walked notes name rest labels bytes
    → IsSplit rest label after → o ≡ find notes (labels_of rest) → o ≡ None → Walked notes name after (labels + 1) (bytes + (1 + length label))
walk_on notes name rest label after labels bytes o h s is none =
    let split = s.labels in
    let form = s.wire in
    let here : find notes (label ∷ labels_of after) ≡ None = ap (find notes) (sym split) ∙ (sym is ∙ none) in
    let step : longest notes (labels_of rest) ≡ one_more (length label) (longest notes (labels_of after)) =
    ap (longest notes) split ∙ (longest_cons notes label (labels_of after) form.labels ∙ ap (λ x. here_or x (one_more (length label) (longest notes (labels_of after)))) here) in
    let a = h.size in
    let b = s.size in
    let c = h.count in
    let d = h.few in
    let e = h.short in
    record {
      form = form;
      so_far = h.so_far ∙ (ap (moved labels bytes) step ∙ moved_more labels bytes (length label) (longest notes (labels_of after)));
      size = omega arith;
      count = omega (arith, ap length split);
      few = omega arith;
      short = e;
    }

pub walk_found : (notes : List Note) (name : List (List ℕ)) (rest label after : List ℕ) (labels bytes p : ℕ) (o : Option ℕ) → Walked notes name rest labels bytes
    → IsSplit rest label after → o ≡ find notes (labels_of rest) → o ≡ Some p → Some (record { labels = labels; bytes = bytes; place = p }) ≡ longest notes name
walk_found notes name rest label after labels bytes p o h s is some =
    let split = s.labels in
    let form = s.wire in
    let here : find notes (label ∷ labels_of after) ≡ Some p = ap (find notes) (sym split) ∙ (sym is ∙ some) in
    let step : longest notes (labels_of rest) ≡ Some (record { labels = 0; bytes = 0; place = p }) =
    ap (longest notes) split ∙ (longest_cons notes label (labels_of after) form.labels ∙ ap (λ x. here_or x (one_more (length label) (longest notes (labels_of after)))) here) in
    let whole = h.so_far ∙ ap (moved labels bytes) step in
    sym (whole ∙ (λ i. Some (record { labels = zero_right labels i; bytes = zero_right bytes i; place = p })))

pub walk_within : (notes : List Note) (name : List (List ℕ)) (rest label after : List ℕ) (labels bytes : ℕ) → Walked notes name rest labels bytes
    → IsSplit rest label after → (labels < length name) × (bytes < length (wire name))
walk_within notes name rest label after labels bytes h s =
    let a = h.size in
    let b = s.size in
    let c = h.count in
    let d = ap length s.labels in
    (omega arith, omega arith)

pub walk_ends : (notes : List Note) (name : List (List ℕ)) (rest : List ℕ) (labels bytes : ℕ) → Walked notes name rest labels bytes → labels_of rest ≡ root
    → None ≡ longest notes name
walk_ends notes name rest labels bytes h e = sym (h.so_far ∙ ap (λ x. moved labels bytes (longest notes x)) e)

-- ---- notes put one by one

kept_longer : (names more : List ℕ) (n : Noted) → n.start + n.size ≤ length names → kept_bytes (names ++ more) n ≡ kept_bytes names n
kept_longer names more n h =
    let a : drop n.start (names ++ more) ≡ drop n.start names ++ more = drop-append-le n.start names more (omega arith) in
    let b : n.size ≤ length (drop n.start names) = omega (arith, length-drop n.start names) in
    ap (take n.size) a ∙ take-append-le n.size (drop n.start names) more b

is_kept_longer : (names more : List ℕ) (n : Noted) → IsKept names n → IsKept (names ++ more) n
is_kept_longer names more n h =
    let fits = h.fits in
    let reach = h.reach in
    record {
      fits = omega (arith, length-append names more);
      wire = subst (λ (x : List ℕ). IsWire x) (sym (kept_longer names more n h.fits)) h.wire;
      reach = reach;
      branches = h.branches;
    }

-- A name that is kept behind the others changes nothing of what was noted.
pub are_kept_longer : (names more : List ℕ) (notes : List Noted) → AreKept names notes → AreKept (names ++ more) notes
are_kept_longer names more [] h = All-nil (IsKept (names ++ more))
are_kept_longer names more (n ∷ notes) h =
    All-cons (IsKept (names ++ more)) n notes (is_kept_longer names more n (All-head (IsKept names) n notes h)) (are_kept_longer names more notes (All-tail (IsKept names) n notes h))

pub notes_longer : (names more : List ℕ) (notes : List Noted) → AreKept names notes → notes_of (names ++ more) notes ≡ notes_of names notes
notes_longer names more [] h = refl
notes_longer names more (n ∷ notes) h =
    let first = All-head (IsKept names) n notes h in
    let here : note_of (names ++ more) n ≡ note_of names n = ap (λ x. record { suffix = labels_of x; place = n.place }) (kept_longer names more n first.fits) in
    λ i. here i ∷ notes_longer names more notes (All-tail (IsKept names) n notes h) i

-- The labels of the last name that are yet to be noted, and the notes so far.
pub record Noting (names : List ℕ) (old now : List Noted) (start written at i place : ℕ) (rest : List ℕ) : Type 0 where
  pub form : IsWire rest
  pub within : length rest ≤ length names
  pub last : drop (length names - length rest) names ≡ rest
  pub kept : AreKept names now
  pub so_far : notes_of names now ++ first_notes (written - i) place (labels_of rest) ≡ notes_of names old ++ first_notes written at (labels_of (drop start names))

pub noting_begins : (names : List ℕ) (old : List Noted) (start written at : ℕ) (rest : List ℕ) → start ≤ length names → IsWire (drop start names) → AreKept names old
    → rest ≡ drop start names → Noting names old old start written at 0 at rest
noting_begins names old start written at rest h w k e =
    let size : length rest + start ≡ length names = omega (arith, ap length e, length-drop start names) in
    let from : length names - length rest ≡ start = omega arith in
    let n : written - 0 ≡ written = omega arith in
    record {
      form = subst (λ (x : List ℕ). IsWire x) (sym e) w;
      within = omega arith;
      last = ap (λ m. drop m names) from ∙ sym e;
      kept = k;
      so_far = λ i. notes_of names old ++ first_notes (n i) at (labels_of (e i));
    }

first_root : (k at : ℕ) → first_notes k at root ≡ []
first_root zero at = refl
first_root (suc k) at = refl

noted_by : (place : ℕ) (suffix : List (List ℕ)) (later : List Note) (b : Bool) → nat_lt place 16384 ≡ b
    → noted suffix place later ≡ (if b then record { suffix = suffix; place = place } ∷ later else [])
noted_by place suffix later b h = ap (λ x. if x then record { suffix = suffix; place = place } ∷ later else []) h

first_far : (k at : ℕ) (l : List ℕ) (ls : List (List ℕ)) → 16384 ≤ at → first_notes k at (l ∷ ls) ≡ []
first_far zero at l ls h = refl
first_far (suc k) at l [] h = refl
first_far (suc k) at l (m ∷ ls) h =
    let b : nat_lt at 16384 ≡ false = grind (arith, nat_tests) in
    noted_by at (l ∷ m ∷ ls) (first_notes k (at + 1 + length l) (m ∷ ls)) false b

first_near : (k at : ℕ) (l : List ℕ) (ls : List (List ℕ)) → AreLabels ls → at < 16384
    → first_notes (suc k) at (l ∷ ls) ≡ record { suffix = l ∷ ls; place = at } ∷ first_notes k (at + 1 + length l) ls
first_near k at l [] h near = absurd h
first_near k at l (m ∷ ls) h near =
    let b : nat_lt at 16384 ≡ true = grind (arith, nat_tests) in
    noted_by at (l ∷ m ∷ ls) (first_notes k (at + 1 + length l) (m ∷ ls)) true b

pub first_none : (at : ℕ) (name : List (List ℕ)) → first_notes 0 at name ≡ []
first_none at name = refl

pub first_out : (k at : ℕ) (name : List (List ℕ)) → 16384 ≤ at → first_notes k at name ≡ []
first_out zero at name h = refl
first_out (suc k) at [] h = refl
first_out (suc k) at (l ∷ ls) h = first_far (suc k) at l ls h

-- Nothing more is noted.
noting_done : (names : List ℕ) (old now : List Noted) (start written at i place : ℕ) (rest : List ℕ) → Noting names old now start written at i place rest
    → first_notes (written - i) place (labels_of rest) ≡ [] → notes_of names now ≡ notes_of names old ++ first_notes written at (labels_of (drop start names))
noting_done names old now start written at i place rest h none =
    sym (append-nil (notes_of names now)) ∙ (sym (ap (λ x. notes_of names now ++ x) none) ∙ h.so_far)

pub noting_ends : (names : List ℕ) (old now : List Noted) (start written at i place : ℕ) (rest : List ℕ) → Noting names old now start written at i place rest
    → labels_of rest ≡ root → notes_of names now ≡ notes_of names old ++ first_notes written at (labels_of (drop start names))
noting_ends names old now start written at i place rest h e =
    noting_done names old now start written at i place rest h (ap (first_notes (written - i) place) e ∙ first_root (written - i) place)

pub noting_far : (names : List ℕ) (old now : List Noted) (start written at i place : ℕ) (rest label after : List ℕ) → Noting names old now start written at i place rest
    → IsSplit rest label after → 16384 ≤ place → notes_of names now ≡ notes_of names old ++ first_notes written at (labels_of (drop start names))
noting_far names old now start written at i place rest label after h s far =
    noting_done names old now start written at i place rest h (ap (first_notes (written - i) place) s.labels ∙ first_far (written - i) place label (labels_of after) far)

pub noting_all : (names : List ℕ) (old now : List Noted) (start written at i place : ℕ) (rest : List ℕ) → Noting names old now start written at i place rest
    → written ≤ i → notes_of names now ≡ notes_of names old ++ first_notes written at (labels_of (drop start names))
noting_all names old now start written at i place rest h e =
    let n : written - i ≡ 0 = omega arith in
    noting_done names old now start written at i place rest h (ap (λ k. first_notes k place (labels_of rest)) n)

behind : (rest label after : List ℕ) → IsSplit rest label after → drop (suc (length label)) rest ≡ after
behind rest label after s = ap (drop (suc (length label))) s.bytes ∙ drop-append_seam label after

-- The end of the names that an entry of this size from this start on holds.
pub kept_last : (names rest : List ℕ) (n : Noted) → drop (length names - length rest) names ≡ rest → n.start ≡ length names - length rest → n.size ≡ length rest
    → kept_bytes names n ≡ rest
kept_last names rest n last s z = (λ i. take (z i) (drop (s i) names)) ∙ (ap (take (length rest)) last ∙ take-length rest)

pub noting_on : (names : List ℕ) (old now new : List Noted) (start written at i place : ℕ) (rest label after : List ℕ) (n : Noted) → Noting names old now start written at i place rest
    → IsSplit rest label after → place < 16384 → i < written → new ≡ now ++ n ∷ [] → n.start ≡ length names - length rest → n.size ≡ length rest → n.place ≡ place → length n.next ≡ 4
    → Noting names old new start written at (i + 1) (place + (1 + length label)) after
noting_on names old now new start written at i place rest label after n h s near less put starts size placed four =
    let left : written - i ≡ suc (written - (i + 1)) = omega arith in
    let form = s.wire in
    let within = h.within in
    let bytes = s.size in
    let next : place + 1 + length label ≡ place + (1 + length label) = omega arith in
    let kept : kept_bytes names n ≡ rest = kept_last names rest n h.last starts size in
    let is : IsKept names n = record { fits = omega arith; wire = subst (λ (x : List ℕ). IsWire x) (sym kept) h.form; reach = omega arith; branches = four } in
    let note : Note = record { suffix = label ∷ labels_of after; place = place } in
    let later = first_notes (written - (i + 1)) (place + (1 + length label)) (labels_of after) in
    let step : first_notes (written - i) place (labels_of rest) ≡ note ∷ later =
    (λ j. first_notes (left j) place (s.labels j)) ∙ (first_near (written - (i + 1)) place label (labels_of after) form.labels near
    ∙ ap (λ n. note ∷ first_notes (written - (i + 1)) n (labels_of after)) next) in
    let same : note_of names n ≡ note = λ j. record { suffix = (ap labels_of kept ∙ s.labels) j; place = placed j } in
    let new_is : notes_of names new ≡ notes_of names now ++ note ∷ [] =
    ap (notes_of names) put ∙ (map-append (note_of names) now (n ∷ []) ∙ ap (λ x. notes_of names now ++ x ∷ []) same) in
    let from : length names - length after ≡ (length names - length rest) + suc (length label) = omega arith in
    record {
      form = form;
      within = omega arith;
      last = ap (λ m. drop m names) from ∙ (sym (drop-drop (suc (length label)) (length names - length rest) names) ∙ (ap (drop (suc (length label))) h.last ∙ behind rest label after s));
      kept = All-same (IsKept names) new (now ++ n ∷ []) put (All-append (IsKept names) now (n ∷ []) h.kept (All-cons (IsKept names) n [] is (All-nil (IsKept names))));
      so_far = ap (λ x. x ++ later) new_is ∙ (append_assoc (notes_of names now) (note ∷ []) later ∙ (sym (ap (λ x. notes_of names now ++ x) step) ∙ h.so_far));
    }

-- The last name that is kept, from its start on.
pub last_name : (old names w : List ℕ) (start : ℕ) → names ≡ old ++ w → start ≡ length old → drop start names ≡ w
last_name old names w start e s = (λ i. drop (s i) (e i)) ∙ drop-append_seam old w

-- The notes of the last name, behind those that there were.
pub noted_behind : (before names w : List ℕ) (old new : List Noted) (was : List Note) (start written at : ℕ) (name : List (List ℕ)) → names ≡ before ++ w → w ≡ wire name
    → start ≡ length before → AreKept before old → notes_of before old ≡ was → notes_of names new ≡ notes_of names old ++ first_notes written at (labels_of (drop start names))
    → notes_of names new ≡ was ++ first_notes written at name
noted_behind before names w old new was start written at name e form s kept view is =
    let same : notes_of names old ≡ was = ap (λ x. notes_of x old) e ∙ (notes_longer before w old kept ∙ view) in
    let last : labels_of (drop start names) ≡ name = ap labels_of (last_name before names w start e s) ∙ name_labels name w form in
    is ∙ (λ i. same i ++ first_notes written at (last i))

-- Notes that are changed where they stand are as many as before.
pub written_back : (names : List ℕ) (put old : List Noted) (count : ℕ) → notes_of names put ≡ notes_of names old → count ≡ length old → take count (put ++ drop (length put) old) ≡ put
written_back names put old count same is =
    let many : length put ≡ length old = sym (length-map put (note_of names)) ∙ (ap length same ∙ length-map old (note_of names)) in
    let rest : drop (length put) old ≡ [] = ap (λ n. drop n old) many ∙ drop-length old in
    let whole : put ++ drop (length put) old ≡ put = ap (λ l. put ++ l) rest ∙ append-nil put in
    (λ i. take ((is ∙ sym many) i) (whole i)) ∙ take-length put

-- Notes that are linked: what is known of them stays.
pub noting_linked : (names : List ℕ) (old now put : List Noted) (start written at i place : ℕ) (rest : List ℕ) → Noting names old now start written at i place rest → AreKept names put
    → notes_of names put ≡ notes_of names now → Noting names old put start written at i place rest
noting_linked names old now put start written at i place rest h kept same =
    let form = h.form in
    let within = h.within in
    record {
      form = form;
      within = within;
      last = h.last;
      kept = kept;
      so_far = ap (λ x. x ++ first_notes (written - i) place (labels_of rest)) same ∙ h.so_far;
    }

-- The bytes of a note that is put behind the others.
pub pushed_last : (names : List ℕ) (notes new : List Noted) (x : Noted) (rest : List ℕ) → new ≡ notes ++ x ∷ [] → kept_bytes names x ≡ rest → get_or (texts_of names new) (length new - 1) [] ≡ rest
pushed_last names notes new x rest put is =
    let all : length (notes ++ x ∷ []) ≡ length notes + 1 = length-append notes (x ∷ []) in
    let many : length (texts_of names notes) ≡ length notes = length-map notes (kept_bytes names) in
    let last : length (notes ++ x ∷ []) - 1 ≡ length (texts_of names notes) = omega arith in
    ap (λ l. get_or (texts_of names l) (length l - 1) []) put
    ∙ ((λ i. get_or (map-append (kept_bytes names) notes (x ∷ []) i) (last i) []) ∙ (get_or-append_seam (texts_of names notes) (kept_bytes names x) [] [] ∙ is))

texts_longer : (names more : List ℕ) (notes : List Noted) → AreKept names notes → texts_of (names ++ more) notes ≡ texts_of names notes
texts_longer names more [] h = refl
texts_longer names more (n ∷ notes) h =
    let first = All-head (IsKept names) n notes h in
    let here = kept_longer names more n first.fits in
    λ i. here i ∷ texts_longer names more notes (All-tail (IsKept names) n notes h) i

-- A name that is kept behind the others leaves the notes on their paths.
pub put_longer : (names more all : List ℕ) (notes same : List Noted) (firsts : List ℕ) → all ≡ names ++ more → same ≡ notes → AreKept names notes → ArePut names notes firsts → ArePut all same firsts
put_longer names more all notes same firsts e is kept h =
    subst (λ (l : List Noted). ArePut all l firsts) (sym is)
    (subst (λ (t : List (List ℕ)). IsPut t notes firsts (length notes)) (sym (ap (λ a. texts_of a notes) e ∙ texts_longer names more notes kept)) h)
