-- The path of a suffix, followed, and what is found where it ends.
use Rattle.std.proofs.Common.{◌≡◌, ℕ, zero, suc, ◌+◌, ◌-◌, ◌<◌, ◌≤◌, Bool, true, false, ◌≢◌, List, [], ◌∷◌, length, map, get_or, Option, Some, None, refl, sym, ◌∙◌, ap, subst, arith, inl, inr}
use Rattle.std.proofs.lemmas.Bool.{cases_lt}
use Rattle.std.specs.Prelude.{if◌then◌else◌, IfSome, slice_index}
use Rattle.std.proofs.lemmas.List.{get_or-map}
use Rattle.std.proofs.lemmas.List.Elements.{All-head, All-tail}
use Rattle.dname.specs.Labels.{same_name, wire}
use Rattle.dname.specs.Wire.{labels_of, IsWire}
use Rattle.dname.specs.Laws.{same_name-exact, same_name-equal}
use Rattle.message_grammar.specs.Packing.{Note, find}
use Rattle.suffixes.specs.declared.earlier.End.{End}
use Rattle.suffixes.specs.declared.earlier.End.TheVariants.{Nowhere, Behind, At}
use Rattle.suffixes.specs.declared.earlier.Noted.{Noted}
use Rattle.suffixes.specs.Kept.{kept_bytes, texts_of, note_of, notes_of, IsKept, AreKept}
use Rattle.suffixes.specs.Branches.{branch, next_of, passed, AreLinked, IsReached, ArePut, IsMissed, EndsAt, EndsBehind, IsEndOf}
use Rattle.suffixes.proofs.Links.{nexts, blank, passed_ended, passed_later}

-- ---- all notes

not_here : (names : List ℕ) (x : Noted) (xs : List Noted) (suffix : List ℕ) → IsKept names x → IsWire suffix → (kept_bytes names x ≡ suffix → ⊥)
    → find (notes_of names (x ∷ xs)) (labels_of suffix) ≡ find (notes_of names xs) (labels_of suffix)
not_here names x xs suffix h w differs =
    by (same_name (labels_of (kept_bytes names x)) (labels_of suffix)) refl
  where
    by : (b : Bool) → same_name (labels_of (kept_bytes names x)) (labels_of suffix) ≡ b → find (notes_of names (x ∷ xs)) (labels_of suffix) ≡ find (notes_of names xs) (labels_of suffix)
    by true e = absurd (differs (sym h.wire.bytes ∙ (ap wire (same_name-exact (labels_of (kept_bytes names x)) (labels_of suffix) e) ∙ w.bytes)))
    by false e = ap (λ (b : Bool). if b then Some x.place else find (notes_of names xs) (labels_of suffix)) e

none_has : (names : List ℕ) (notes : List Noted) (suffix : List ℕ) → AreKept names notes → IsWire suffix → ((k : ℕ) → k < length notes → get_or (texts_of names notes) k [] ≡ suffix → ⊥)
    → find (notes_of names notes) (labels_of suffix) ≡ None
none_has names [] suffix kept w none = refl
none_has names (x ∷ xs) suffix kept w none =
    not_here names x xs suffix (All-head (IsKept names) x xs kept) w (none 0 (omega arith))
    ∙ none_has names xs suffix (All-tail (IsKept names) x xs kept) w (λ k l. none (suc k) (omega arith))

first_has : (names : List ℕ) (notes : List Noted) (suffix : List ℕ) (f : ℕ) (d : Noted) → AreKept names notes → IsWire suffix → f < length notes → get_or (texts_of names notes) f [] ≡ suffix
    → ((k : ℕ) → k < f → get_or (texts_of names notes) k [] ≡ suffix → ⊥) → find (notes_of names notes) (labels_of suffix) ≡ Some (get_or notes f d).place
first_has names [] suffix f d kept w less here none = absurd (omega arith)
first_has names (x ∷ xs) suffix zero d kept w less here none =
    ap (λ (b : Bool). if b then Some x.place else find (notes_of names xs) (labels_of suffix)) (same_name-equal (labels_of (kept_bytes names x)) (labels_of suffix) (ap labels_of here))
first_has names (x ∷ xs) suffix (suc f) d kept w less here none =
    not_here names x xs suffix (All-head (IsKept names) x xs kept) w (none 0 (omega arith))
    ∙ first_has names xs suffix f d (All-tail (IsKept names) x xs kept) w (omega arith) here (λ k l. none (suc k) (omega arith))

-- ---- the path

-- Where the path has come to so far behind a note, and nothing missed that has the suffix.
pub record IsBehind (notes : List Noted) (first : ℕ) (suffix : List ℕ) (number depth n w : ℕ) : Type 0 where
  pub before : ℕ
  pub next : depth ≡ suc before
  pub comes : passed notes suffix first before ≡ n
  pub some : 0 < n
  pub within : n ≤ length notes
  pub takes : w ≡ branch suffix before
  pub leads : next_of notes n w ≡ number

abbrev pub IsSoFar : List Noted → ℕ → List ℕ → ℕ → ℕ → End → Type 0
IsSoFar notes first suffix number depth Nowhere = depth ≡ 0
IsSoFar notes first suffix number depth (Behind n w) = IsBehind notes first suffix number depth n w
IsSoFar notes first suffix number depth (At n) = ⊥

pub record Following (texts : List (List ℕ)) (notes : List Noted) (first : ℕ) (suffix : List ℕ) (number depth : ℕ) (end : End) : Type 0 where
  pub comes : passed notes suffix first depth ≡ number
  pub within : number ≤ length notes
  pub early : 0 < number → depth < number
  pub missed : IsMissed texts notes first suffix depth
  pub so_far : IsSoFar notes first suffix number depth end

pub following_begins : (texts : List (List ℕ)) (notes : List Noted) (first : ℕ) (suffix : List ℕ) → first ≤ length notes → Following texts notes first suffix first 0 Nowhere
following_begins texts notes first suffix within = record {
  comes = refl;
  within = within;
  early = λ l. l;
  missed = λ d j l. absurd (omega arith);
  so_far = refl;
}

number_of : (number j : ℕ) → 0 < number → number ≡ suc j → number - 1 ≡ j
number_of number j some e = omega arith

pub following_on : (names : List ℕ) (notes : List Noted) (first : ℕ) (suffix : List ℕ) (number depth w : ℕ) (end : End) → AreLinked notes
    → Following (texts_of names notes) notes first suffix number depth end → 0 < number → kept_bytes names (get_or notes (number - 1) blank) ≢ suffix → w ≡ branch suffix depth
    → Following (texts_of names notes) notes first suffix (slice_index (get_or notes (number - 1) blank).next w) (depth + 1) (Behind number w)
following_on names notes first suffix number depth w end linked h some misses takes =
    let within = h.within in
    let early = h.early some in
    let less : number - 1 < length notes = omega arith in
    let text = get_or-map (kept_bytes names) notes (number - 1) blank [] less in
    let nexts_are = get_or-map (λ (n : Noted). n.next) notes (number - 1) blank [] less in
    let next = slice_index (get_or notes (number - 1) blank).next w in
    let number_is : number ≡ suc (number - 1) = omega arith in
    let leads_to : next_of notes number w ≡ next = ap (λ n. next_of notes n w) number_is ∙ ap (λ l. slice_index l w) nexts_are in
    let deeper : depth + 1 ≡ suc depth = omega arith in
    let bound = linked.within number w in
    record {
      comes = ap (passed notes suffix first) deeper ∙ ((λ i. next_of notes (h.comes i) (sym takes i)) ∙ leads_to);
      within = omega arith;
      early = λ l. let later = linked.later number w (omega arith) in omega arith;
      missed = λ d j l e s. elim (cases_lt d depth) [
        | inl before ↦ h.missed d j before e s
        | inr most ↦ (
            let here : d ≡ depth = omega arith in
            let is : number ≡ suc j = sym h.comes ∙ (ap (passed notes suffix first) (sym here) ∙ e) in
            let bytes : kept_bytes names (get_or notes (number - 1) blank) ≡ suffix = sym text ∙ (ap (λ k. get_or (texts_of names notes) k []) (number_of number j some is) ∙ s) in
            misses bytes)
      ];
      so_far = record {
        before = depth;
        next = deeper;
        comes = h.comes;
        some = some;
        within = within;
        takes = takes;
        leads = leads_to;
      };
    }

pub following_found : (names : List ℕ) (notes : List Noted) (first : ℕ) (suffix : List ℕ) (number depth : ℕ) (end : End)
    → Following (texts_of names notes) notes first suffix number depth end → 0 < number → kept_bytes names (get_or notes (number - 1) blank) ≡ suffix
    → EndsAt (texts_of names notes) notes first suffix number
following_found names notes first suffix number depth end h some has =
    let within = h.within in
    let less : number - 1 < length notes = omega arith in
    let text = get_or-map (kept_bytes names) notes (number - 1) blank [] less in
    record {
      depth = depth;
      comes = h.comes;
      some = some;
      within = within;
      here = text ∙ has;
      missed = h.missed;
    }

pub following_ends : (texts : List (List ℕ)) (notes : List Noted) (first : ℕ) (suffix : List ℕ) (number depth : ℕ) (end : End) → Following texts notes first suffix number depth end → number ≤ 0
    → IsEndOf texts notes first suffix end
following_ends texts notes first suffix number depth Nowhere h none =
    let number_is : number ≡ 0 = omega arith in
    sym (ap (passed notes suffix first) h.so_far) ∙ (h.comes ∙ number_is)
following_ends texts notes first suffix number depth (Behind n w) h none =
    let b = h.so_far in
    let number_is : number ≡ 0 = omega arith in
    record {
      depth = b.before;
      comes = b.comes;
      some = b.some;
      within = b.within;
      takes = b.takes;
      none = b.leads ∙ number_is;
      missed = subst (λ (d : ℕ). IsMissed texts notes first suffix d) b.next h.missed;
    }
following_ends texts notes first suffix number depth (At n) h none = absurd h.so_far

-- ---- what is found

-- A note that has the suffix stands on its path, or an earlier one that has it.
on_path : (names : List ℕ) (notes : List Noted) (firsts suffix : List ℕ) (k : ℕ) → ArePut names notes firsts → k < length notes → get_or (texts_of names notes) k [] ≡ suffix
    → IsReached (texts_of names notes) notes firsts k suffix
on_path names notes firsts suffix k h less e = subst (λ (b : List ℕ). IsReached (texts_of names notes) notes firsts k b) e (h.reached k less)

pub found_at : (names : List ℕ) (notes : List Noted) (firsts suffix : List ℕ) (n : ℕ) (x : Noted) → AreKept names notes → ArePut names notes firsts → IsWire suffix
    → EndsAt (texts_of names notes) notes (slice_index firsts (length suffix)) suffix n → x ≡ get_or notes (n - 1) x → Some x.place ≡ find (notes_of names notes) (labels_of suffix)
found_at names notes firsts suffix n x kept h w end at =
    let some = end.some in
    let within = end.within in
    let none : (k : ℕ) → k < n - 1 → get_or (texts_of names notes) k [] ≡ suffix → ⊥ = λ k less e.
    let r = on_path names notes firsts suffix k h (omega arith) e in
    elim (cases_lt r.depth end.depth) [
      | inl before ↦ end.missed r.depth r.index before r.stands r.same
      | inr behind ↦ (
          let more : end.depth + (r.depth - end.depth) ≡ r.depth = omega arith in
          let comes : passed notes suffix (slice_index firsts (length suffix)) (end.depth + (r.depth - end.depth)) ≡ suc r.index = ap (passed notes suffix (slice_index firsts (length suffix))) more ∙ r.stands in
          let later = passed_later notes suffix (slice_index firsts (length suffix)) end.depth (r.depth - end.depth) h.linked (omega arith) in
          let here = end.comes in
          let early = r.early in
          absurd (omega arith))
    ] in
    sym (first_has names notes suffix (n - 1) x kept w (omega arith) end.here none ∙ ap (λ (y : Noted). Some y.place) (sym at))

pub found_nowhere : (names : List ℕ) (notes : List Noted) (firsts suffix : List ℕ) → AreKept names notes → ArePut names notes firsts → IsWire suffix → slice_index firsts (length suffix) ≡ 0
    → None ≡ find (notes_of names notes) (labels_of suffix)
found_nowhere names notes firsts suffix kept h w none = sym (none_has names notes suffix kept w (λ k less e.
    let r = on_path names notes firsts suffix k h less e in
    let whole : 0 + r.depth ≡ r.depth = omega arith in
    let ended = sym (ap (passed notes suffix (slice_index firsts (length suffix))) whole) ∙ passed_ended notes suffix (slice_index firsts (length suffix)) 0 r.depth none in
    let stands = r.stands in
    absurd (omega arith)))

pub found_behind : (names : List ℕ) (notes : List Noted) (firsts suffix : List ℕ) (n v : ℕ) → AreKept names notes → ArePut names notes firsts → IsWire suffix
    → EndsBehind (texts_of names notes) notes (slice_index firsts (length suffix)) suffix n v → None ≡ find (notes_of names notes) (labels_of suffix)
found_behind names notes firsts suffix n v kept h w end = sym (none_has names notes suffix kept w (λ k less e.
    let r = on_path names notes firsts suffix k h less e in
    elim (cases_lt r.depth (suc end.depth)) [
      | inl before ↦ end.missed r.depth r.index before r.stands r.same
      | inr behind ↦ (
          let over : passed notes suffix (slice_index firsts (length suffix)) (suc end.depth) ≡ 0 = (λ i. next_of notes (end.comes i) (sym end.takes i)) ∙ end.none in
          let more : suc end.depth + (r.depth - suc end.depth) ≡ r.depth = omega arith in
          let ended = passed_ended notes suffix (slice_index firsts (length suffix)) (suc end.depth) (r.depth - suc end.depth) over in
          let comes = ap (passed notes suffix (slice_index firsts (length suffix))) more ∙ r.stands in
          absurd (omega arith))
    ]))
