-- How the writing of a name goes on.
use Rattle.std.proofs.Common.{◌≡◌, ℕ, ◌+◌, ◌-◌, ◌<◌, ◌≤◌, List, [], ◌∷◌, ◌++◌, length, take, drop, refl, sym, ◌∙◌, ap, subst, arith, append_assoc, append-nil, length-append}
use Rattle.std.proofs.Math.Seq.{take-append_seam, drop-append-add}
use Rattle.std.specs.Prelude.{slice_set}
use Rattle.std.proofs.lemmas.Bool.Decides.{nat_tests}
use Rattle.dname.specs.Labels.{wire, folded, AreFolded, AreLabels, IsLabel}
use Rattle.dname.specs.Wire.{labels_of, IsNameWire}
use Rattle.dname.specs.Laws.{labels_of-wire}
use Rattle.dname.specs.Draft.{Draft, IsDraft, AllLabels, empty_draft, shut}
use Rattle.dname.specs.Written.{written, draft_of, IsWritten}
use Rattle.dname.proofs.Split.{wire_is}

pub wire-append : (a b : List (List ℕ)) → wire (a ++ b) ≡ wire a ++ wire b
wire-append [] b = refl
wire-append (l ∷ a) b = ap (λ (x : List ℕ). length l ∷ (l ++ x)) (wire-append a b) ∙ ap (λ (x : List ℕ). length l ∷ x) (sym (append_assoc l (wire a) (wire b)))

-- What is written is read back.
pub draft_back : (d : Draft) → draft_of (written d) (length (wire d.closed)) ≡ d
draft_back d =
    let closed : labels_of (take (length (wire d.closed)) (written d)) ≡ d.closed = ap labels_of (take-append_seam (wire d.closed) (0 ∷ d.opened)) ∙ labels_of-wire d.closed in
    let opened : drop (length (wire d.closed) + 1) (written d) ≡ d.opened = drop-append-add (wire d.closed) (0 ∷ d.opened) 1 in
    λ i. record { closed = closed i; opened = opened i }

pub record Writes (bytes : List ℕ) (start : ℕ) (d : Draft) : Type 0 where
  pub good : IsWritten bytes start
  pub same : draft_of bytes start ≡ d

writes_itself : (d : Draft) → IsDraft d → Writes (written d) (length (wire d.closed)) d
writes_itself d h = record {
  good = record {
    draft = subst (λ (x : Draft). IsDraft x) (sym (draft_back d)) h;
    all = ap written (sym (draft_back d));
    begins = ap (λ (x : Draft). length (wire x.closed)) (sym (draft_back d));
  };
  same = draft_back d;
}

pub writes : (d : Draft) (bytes : List ℕ) (start : ℕ) → IsDraft d → bytes ≡ written d → start ≡ length (wire d.closed) → Writes bytes start d
writes d bytes start h eb es =
    subst (λ (x : List ℕ). Writes x start d) (sym eb) (subst (λ (n : ℕ). Writes (written d) n d) (sym es) (writes_itself d h))

-- The first byte of all.
pub empty_writes : (bytes : List ℕ) → bytes ≡ 0 ∷ [] → Writes bytes 0 empty_draft
empty_writes bytes e = writes empty_draft bytes 0 (record { labels = tt; folded_bytes = tt; short = omega arith; room = omega arith; open_room = λ h. omega arith }) e refl

-- One byte more in the open label.
more_folded : (bs : List ℕ) (b : ℕ) → AreFolded bs → b < 256 → folded b ≡ b → AreFolded (bs ++ b ∷ [])
more_folded [] b h lt e = (lt, e, tt)
more_folded (c ∷ bs) b h lt e = (h.0, h.1, more_folded bs b h.2 lt e)

pub more_draft : (d : Draft) (b : ℕ) → IsDraft d → b < 256 → folded b ≡ b → length d.opened < 63 → length (wire d.closed) + 1 + length d.opened < 254
    → IsDraft (record { closed = d.closed; opened = d.opened ++ b ∷ [] })
more_draft d b h lt e few room = record {
  labels = h.labels;
  folded_bytes = more_folded d.opened b h.folded_bytes lt e;
  short = omega (arith, length-append d.opened (b ∷ []));
  room = h.room;
  open_room = λ _. omega (arith, length-append d.opened (b ∷ []));
}

pub more_written : (d : Draft) (b : ℕ) (old new : List ℕ) → old ≡ written d → new ≡ old ++ b ∷ [] → new ≡ written (record { closed = d.closed; opened = d.opened ++ b ∷ [] })
more_written d b old new e h = h ∙ (ap (λ (x : List ℕ). x ++ b ∷ []) e ∙ append_assoc (wire d.closed) (0 ∷ d.opened) (b ∷ []))

-- The open label closed.
set_seam : (front rest : List ℕ) (a b : ℕ) → slice_set (front ++ a ∷ rest) (length front) b ≡ front ++ b ∷ rest
set_seam [] rest a b = refl
set_seam (c ∷ front) rest a b = ap (λ (x : List ℕ). c ∷ x) (set_seam front rest a b)

all_more : (ls : List (List ℕ)) (l : List ℕ) → AllLabels ls → IsLabel l → AllLabels (ls ++ l ∷ [])
all_more [] l h k = (k, tt)
all_more (m ∷ ls) l h k = (h.0, all_more ls l h.1 k)

wire_more : (ls : List (List ℕ)) (l : List ℕ) → wire (ls ++ l ∷ []) ≡ wire ls ++ length l ∷ l
wire_more ls l = wire-append ls (l ∷ []) ∙ ap (λ (x : List ℕ). wire ls ++ length l ∷ x) (append-nil l)

size_more : (ls : List (List ℕ)) (l : List ℕ) → length (wire (ls ++ l ∷ [])) ≡ length (wire ls) + 1 + length l
size_more ls l = omega (arith, ap length (wire_more ls l), length-append (wire ls) (length l ∷ l))

pub label_more : (closed : List (List ℕ)) (l : List ℕ) → AllLabels closed → IsLabel l → length (wire closed) + length l + 2 ≤ 255 → IsDraft (record { closed = closed ++ l ∷ []; opened = [] })
label_more closed l h k room = record {
  labels = all_more closed l h k;
  folded_bytes = tt;
  short = omega arith;
  room = omega (arith, size_more closed l);
  open_room = λ z. omega arith;
}

-- The bytes once the length stands and the next label's place is made.
pub label_written : (closed : List (List ℕ)) (l : List ℕ) (old new : List ℕ) (start : ℕ) → old ≡ wire closed ++ 0 ∷ l → start ≡ length (wire closed)
    → new ≡ slice_set (old ++ 0 ∷ []) start (length l) → new ≡ written (record { closed = closed ++ l ∷ []; opened = [] })
label_written closed l old new start eo es en =
    en ∙ (ap (λ (x : List ℕ). slice_set (x ++ 0 ∷ []) start (length l)) eo
    ∙ (ap (λ (n : ℕ). slice_set ((wire closed ++ 0 ∷ l) ++ 0 ∷ []) n (length l)) es
    ∙ (ap (λ (x : List ℕ). slice_set x (length (wire closed)) (length l)) (append_assoc (wire closed) (0 ∷ l) (0 ∷ []))
    ∙ (set_seam (wire closed) (l ++ 0 ∷ []) 0 (length l)
    ∙ (sym (append_assoc (wire closed) (length l ∷ l) (0 ∷ [])) ∙ ap (λ (x : List ℕ). x ++ 0 ∷ []) (sym (wire_more closed l)))))))

-- A draft without an open label is a name.
ends_in_root : (ls : List (List ℕ)) → AllLabels ls → AreLabels (ls ++ [] ∷ [])
ends_in_root [] h = refl
ends_in_root (l ∷ []) h = (h.0, refl)
ends_in_root (l ∷ m ∷ ls) h = (h.0, ends_in_root (m ∷ ls) h.1)

pub record Names (bytes : List ℕ) (n : List (List ℕ)) : Type 0 where
  pub good : IsNameWire bytes
  pub same : labels_of bytes ≡ n

pub named : (closed : List (List ℕ)) (bytes : List ℕ) → AllLabels closed → length (wire closed) + 1 ≤ 255 → bytes ≡ wire closed ++ 0 ∷ [] → Names bytes (closed ++ [] ∷ [])
named closed bytes h room e =
    let whole : bytes ≡ wire (closed ++ [] ∷ []) = e ∙ sym (wire-append closed ([] ∷ [])) in
    subst (λ (x : List ℕ). Names x (closed ++ [] ∷ [])) (sym whole) (record {
      good = record { wire = wire_is (closed ++ [] ∷ []) (ends_in_root closed h); short = omega (arith, ap length (wire-append closed ([] ∷ [])), length-append (wire closed) (0 ∷ [])) };
      same = labels_of-wire (closed ++ [] ∷ []);
    })

pub folded_twice : (b : ℕ) → folded (folded b) ≡ folded b
folded_twice b = grind (arith, nat_tests)

pub folded_fits : (b : ℕ) → b < 256 → folded b < 256
folded_fits b h = grind (arith, nat_tests)

-- The three steps over the kept bytes.
written_size : (bytes : List ℕ) (start : ℕ) → IsWritten bytes start → length bytes ≡ length (wire (draft_of bytes start).closed) + 1 + length (draft_of bytes start).opened
written_size bytes start h =
    ap length h.all ∙ (length-append (wire (draft_of bytes start).closed) (0 ∷ (draft_of bytes start).opened) ∙ (omega arith))

pub pushed_writes : (bytes : List ℕ) (start b : ℕ) (new : List ℕ) → IsWritten bytes start → b < 256 → folded b ≡ b → length (draft_of bytes start).opened < 63 → length bytes < 254
    → new ≡ bytes ++ b ∷ [] → Writes new start (record { closed = (draft_of bytes start).closed; opened = (draft_of bytes start).opened ++ b ∷ [] })
pushed_writes bytes start b new h lt e few room en =
    writes (record { closed = (draft_of bytes start).closed; opened = (draft_of bytes start).opened ++ b ∷ [] }) new start
    (more_draft (draft_of bytes start) b h.draft lt e few (let s = written_size bytes start h in omega arith))
    (more_written (draft_of bytes start) b bytes new h.all en) h.begins

opened_size : (bytes : List ℕ) (start size : ℕ) → IsWritten bytes start → size ≡ length bytes - start - 1 → size ≡ length (draft_of bytes start).opened
opened_size bytes start size h e = let s = written_size bytes start h in let b = h.begins in omega arith

pub shut_writes : (bytes grown new : List ℕ) (start size next : ℕ) → IsWritten bytes start → 0 < length (draft_of bytes start).opened → size ≡ length bytes - start - 1
    → grown ≡ bytes ++ 0 ∷ [] → new ≡ slice_set grown start size → next + 1 ≡ length grown → Writes new next (shut (draft_of bytes start))
shut_writes bytes grown new start size next h some es eg en el =
    let d : Draft = draft_of bytes start in
    let label : IsLabel (draft_of bytes start).opened = record { nonempty = some; short = h.draft.short; bytes = h.draft.folded_bytes } in
    let room : length (wire (draft_of bytes start).closed) + length (draft_of bytes start).opened + 2 ≤ 255 = h.draft.open_room some in
    let size_is : size ≡ length (draft_of bytes start).opened = opened_size bytes start size h es in
    let all : new ≡ written (shut (draft_of bytes start)) =
    label_written (draft_of bytes start).closed (draft_of bytes start).opened bytes new start h.all h.begins
    (en ∙ (ap (λ (x : List ℕ). slice_set x start size) eg ∙ ap (λ (n : ℕ). slice_set (bytes ++ 0 ∷ []) start n) size_is)) in
    let grown_size : length grown ≡ length bytes + 1 = ap length eg ∙ length-append bytes (0 ∷ []) in
    let s = written_size bytes start h in
    let more = size_more (draft_of bytes start).closed (draft_of bytes start).opened in
    writes (shut (draft_of bytes start)) new next (label_more (draft_of bytes start).closed (draft_of bytes start).opened h.draft.labels label room) all (omega arith)

pub finish_names : (bytes : List ℕ) (start : ℕ) (d : Draft) → IsWritten bytes start → draft_of bytes start ≡ d → d.opened ≡ [] → Names bytes (d.closed ++ [] ∷ [])
finish_names bytes start d h e o =
    let opened : (draft_of bytes start).opened ≡ [] = ap (λ (x : Draft). x.opened) e ∙ o in
    subst (λ (x : Draft). Names bytes (x.closed ++ [] ∷ [])) e
    (named (draft_of bytes start).closed bytes h.draft.labels h.draft.room (h.all ∙ ap (λ (x : List ℕ). wire (draft_of bytes start).closed ++ 0 ∷ x) opened))
