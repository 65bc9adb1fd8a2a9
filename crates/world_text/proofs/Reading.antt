-- A world text read line by line.
use Rattle.std.proofs.Common.{◌≡◌, ◌⊎◌, inl, inr, refl, sym, ap, ◌∙◌, subst, ℕ, ◌+◌, ◌-◌, ◌<◌, ◌≤◌, Bool, true, false, cond, codes, Option, Some, None, Result, Ok, Err, List, [], ◌∷◌, ◌++◌, ◌^◌, min, length, take, drop, get_or, length-append, append_assoc, append-nil, MatchResult, arith}
use Rattle.std.specs.Option.{is_some}
use Rattle.std.specs.Str.{bytes_eq, IsUtf8}
use Rattle.std.proofs.Math.Nat.{min-le_left}
use Rattle.std.proofs.Math.Seq.{take-append_seam}
use Rattle.std.proofs.lemmas.List.{drop_at}
use Rattle.std.proofs.lemmas.Str.{IsUtf8-drop, IsUtf8-nil, IsCharBoundary-after_ascii}
use Rattle.text_lines.specs.declared.fault.LineKind.{LineKind}
use Rattle.text_lines.specs.declared.fault.LineError.{LineError}
use Rattle.text_lines.specs.Faults.{IsLineFault, ◌>>=◌}
use Rattle.text_lines.specs.Lines.{lines, IsFirstLine}
use Rattle.text_lines.specs.Texts.{IsTextFault, at_line, line_behind, stated_words, ◌>>◌}
use Rattle.world_text.specs.WorldTexts.{Block}
use Rattle.world_text.specs.Statements.{Statement, stated}
use Rattle.world_text.specs.Readings.{Said, Reading, outside, inside, after, with_block, longer, line_read, read_from, nothing_yet, said_in, finished}
use Rattle.world_text.specs.Seen.{block_seen, reading_with, closed, IsTail, IsLeftBehind}
use Rattle.world_text.specs.declared.open_block.OpenBlock.{OpenBlock}

-- ---- texts

nothing : (line behind : List ℕ) → [] ≡ line ∷ lines behind → ⊥
nothing line behind e = cc

fewer : (left line behind : List ℕ) → 0 < length left → (left ≡ line ++ 10 ∷ behind) ⊎ ((left ≡ line) × (behind ≡ [])) → length behind < length left
fewer left line behind some (inl e) = omega (arith, ap length e, length-append line (10 ∷ behind))
fewer left line behind some (inr (e, n)) = omega (arith, ap length n)

pub shorter : (left line behind : List ℕ) → IsFirstLine left line behind → length behind < length left
shorter [] line behind h = absurd (nothing line behind h.first)
shorter (c ∷ cs) line behind h = fewer (c ∷ cs) line behind (omega arith) h.splits

pub tail_shorter : (tail text : List ℕ) → IsTail tail text → length tail ≤ length text
tail_shorter tail text h = omega (arith, ap length h.is, length-append h.front tail)

-- What stands before a text's end.
before : (front tail text : List ℕ) → text ≡ front ++ tail → take (length text - length tail) text ≡ front
before front tail text e =
    let n : length text - length tail ≡ length front = omega (arith, ap length e, length-append front tail) in
    rw (n, e) (take-append_seam front tail)

split_again : (front left line behind text : List ℕ) → text ≡ front ++ left → left ≡ line ++ 10 ∷ behind → text ≡ (front ++ (line ++ 10 ∷ [])) ++ behind
split_again front left line behind text e s = e ∙ (ap (λ (l : List ℕ). front ++ l) s ∙ simp append_assoc)

still_left : {A : Type 0} (left line behind : List ℕ) (o : OpenBlock A) → (left ≡ line ++ 10 ∷ behind) ⊎ ((left ≡ line) × (behind ≡ [])) → IsTail left o.behind.now → IsTail behind o.behind.now
still_left left line behind o (inl s) h = record { front = h.front ++ (line ++ 10 ∷ []); is = split_again h.front left line behind o.behind.now h.is s }
still_left left line behind o (inr (e, n)) h = record { front = o.behind.now; is = sym (append-nil o.behind.now) ∙ ap (λ (l : List ℕ). o.behind.now ++ l) (sym n) }

-- What is left stays a part of what stands behind the opening.
pub stays_behind : {A : Type 0} (left line behind : List ℕ) (o : Option (OpenBlock A)) → IsFirstLine left line behind → IsLeftBehind left o → IsLeftBehind behind o
stays_behind left line behind None first h = tt
stays_behind left line behind (Some o) first h = still_left left line behind o first.splits h

-- What stands behind a line's end is text.
line_end : (line behind : List ℕ) → get_or (line ++ 10 ∷ behind) (length line) 0 ≡ 10
line_end [] behind = refl
line_end (c ∷ cs) behind = line_end cs behind

behind_end : (left line behind : List ℕ) → IsUtf8 left → left ≡ line ++ 10 ∷ behind → IsUtf8 behind
behind_end left line behind text e =
    let at : get_or left (length line) 0 ≡ 10 = ap (λ (l : List ℕ). get_or l (length line) 0) e ∙ line_end line behind in
    let within : length line < length left = omega (arith, ap length e, length-append line (10 ∷ behind)) in
    let rest : drop (length line + 1) left ≡ behind =
    ap (drop (length line + 1)) (split_again [] left line behind left refl e) ∙ drop_at (line ++ 10 ∷ []) behind (length line + 1) (length-append line (10 ∷ [])) in
    subst IsUtf8 rest (IsUtf8-drop left (length line + 1) text (IsCharBoundary-after_ascii left (length line) text within (omega (arith, at))))

still_text : (left line behind : List ℕ) → IsUtf8 left → (left ≡ line ++ 10 ∷ behind) ⊎ ((left ≡ line) × (behind ≡ [])) → IsUtf8 behind
still_text left line behind text (inl e) = behind_end left line behind text e
still_text left line behind text (inr (e, none)) = subst IsUtf8 (sym none) IsUtf8-nil

pub stays_text : (left line behind : List ℕ) → IsUtf8 left → IsFirstLine left line behind → IsUtf8 behind
stays_text left line behind text first = still_text left line behind text first.splits

-- Lines are no more than bytes.
pub counts : (n m : ℕ) (left line behind : List ℕ) → IsFirstLine left line behind → m ≡ min (n + 1) (2 ^ 64 - 1) → n + length left ≤ 2 ^ 63 → m + length behind ≤ 2 ^ 63
counts n m left line behind first is few = omega (arith, is, min-le_left (n + 1) (2 ^ 64 - 1), shorter left line behind first)

-- ---- one line more

pub read_more : (n : ℕ) (r next : Reading) (left line : List ℕ) (rest : List (List ℕ)) → lines left ≡ line ∷ rest → line_read n r line ≡ Ok next
    → read_from n r (lines left) ≡ read_from (line_behind n) next rest
read_more n r next left line rest first read =
    ap (read_from n r) first ∙ ap (λ (x : Result Reading LineKind). at_line n x >> (λ k. read_from (line_behind n) k rest)) read

pub read_stops : (n : ℕ) (r : Reading) (left line : List ℕ) (rest : List (List ℕ)) (e : LineKind) → lines left ≡ line ∷ rest → IsLineFault e (line_read n r line)
    → IsTextFault (record { line = n; kind = e }) (read_from n r (lines left))
read_stops n r left line rest e first (inl starved) = inl starved
read_stops n r left line rest e first (inr fault) =
    inr (ap (read_from n r) first ∙ ap (λ (x : Result Reading LineKind). at_line n x >> (λ k. read_from (line_behind n) k rest)) fault)

-- ---- outside of blocks

abbrev read_after : ℕ → Said → Result (Option Statement) LineKind → Result Reading LineKind
read_after n s r = r >>= λ found. Ok (after n s found)

pub outside_read : {A : Type 0} (n : ℕ) (s : Said) (o : Option (OpenBlock A)) (left line behind : List ℕ) (found : Option Statement) (next : Reading)
    → is_some o ≡ false → IsFirstLine left line behind → stated (stated_words line) ≡ Ok found → next ≡ after n s found
    → read_from n (reading_with left s o) (lines left) ≡ read_from (line_behind n) next (lines behind)
outside_read n s (Some o) left line behind found next none first says is = absurd (cc)
outside_read n s None left line behind found next none first says is =
    read_more n (outside s) next left line (lines behind) first.first
    (ap (read_after n s) says ∙ ap Ok (sym is))

fault_in : (n : ℕ) (s : Said) (r : Result (Option Statement) LineKind) (e : LineKind) → IsLineFault e r → IsLineFault e (read_after n s r)
fault_in n s r e (inl starved) = inl starved
fault_in n s r e (inr is) = inr (ap (read_after n s) is)

pub outside_stops : {A : Type 0} (n : ℕ) (s : Said) (o : Option (OpenBlock A)) (left line behind : List ℕ) (e : LineKind)
    → is_some o ≡ false → IsFirstLine left line behind → IsLineFault e (stated (stated_words line))
    → IsTextFault (record { line = n; kind = e }) (read_from n (reading_with left s o) (lines left))
outside_stops n s (Some o) left line behind e none first fault = absurd (cc)
outside_stops n s None left line behind e none first fault =
    read_stops n (outside s) left line (lines behind) e first.first (fault_in n s (stated (stated_words line)) e fault)

-- ---- inside of a block

pub closed_read : {A : Type 0} (n : ℕ) (s t : Said) (o p : Option (OpenBlock A)) (left line behind : List ℕ)
    → is_some o ≡ true → bytes_eq line (codes "end") ≡ true → IsFirstLine left line behind → p ≡ None → outside t ≡ closed (reading_with left s o)
    → read_from n (reading_with left s o) (lines left) ≡ read_from (line_behind n) (reading_with behind t p) (lines behind)
closed_read n s t None p left line behind some ends first gone is = absurd (cc)
closed_read n s t (Some o) p left line behind some ends first gone is =
    let read : Bool → Result Reading LineKind = λ b. Ok (cond b (outside (with_block s (block_seen left o))) (inside s (longer (block_seen left o) line))) in
    let same : outside (with_block s (block_seen left o)) ≡ reading_with behind t p = sym is ∙ ap (reading_with behind t) (sym gone) in
    read_more n (inside s (block_seen left o)) (reading_with behind t p) left line (lines behind) first.first (ap read ends ∙ ap Ok same)

block_longer : {A : Type 0} (o : OpenBlock A) (left line behind : List ℕ) → left ≡ line ++ 10 ∷ behind → IsTail left o.behind.now → longer (block_seen left o) line ≡ block_seen behind o
block_longer o left line behind s h =
    let block : List ℕ → Block = λ text. record { origin = o.origin; is_local = o.is_local; line = o.line; text = text } in
    ap block
    (ap (λ (text : List ℕ). text ++ (line ++ 10 ∷ [])) (before h.front left o.behind.now h.is)
    ∙ sym (before (h.front ++ (line ++ 10 ∷ [])) behind o.behind.now (split_again h.front left line behind o.behind.now h.is s)))

unclosed : {A : Type 0} (n : ℕ) (s : Said) (o : OpenBlock A) (left line behind : List ℕ) → behind ≡ []
    → read_from n (inside s (longer (block_seen left o) line)) (lines behind) ≡ read_from n (inside s (block_seen behind o)) (lines behind)
unclosed n s o left line behind none = rw none refl

goes_on : {A : Type 0} (n : ℕ) (s : Said) (o : OpenBlock A) (left line behind : List ℕ) → (left ≡ line ++ 10 ∷ behind) ⊎ ((left ≡ line) × (behind ≡ [])) → IsTail left o.behind.now
    → read_from n (inside s (longer (block_seen left o) line)) (lines behind) ≡ read_from n (inside s (block_seen behind o)) (lines behind)
goes_on n s o left line behind (inl e) h = ap (λ (b : Block). read_from n (inside s b) (lines behind)) (block_longer o left line behind e h)
goes_on n s o left line behind (inr (e, none)) h = unclosed n s o left line behind none

pub inside_read : {A : Type 0} (n : ℕ) (s : Said) (o : Option (OpenBlock A)) (left line behind : List ℕ)
    → is_some o ≡ true → bytes_eq line (codes "end") ≡ false → IsFirstLine left line behind → IsLeftBehind left o
    → read_from n (reading_with left s o) (lines left) ≡ read_from (line_behind n) (reading_with behind s o) (lines behind)
inside_read n s None left line behind some other first h = absurd (cc)
inside_read n s (Some o) left line behind some other first h =
    let read : Bool → Result Reading LineKind = λ b. Ok (cond b (outside (with_block s (block_seen left o))) (inside s (longer (block_seen left o) line))) in
    read_more n (inside s (block_seen left o)) (inside s (longer (block_seen left o) line)) left line (lines behind) first.first (ap read other)
    ∙ goes_on (line_behind n) s o left line behind first.splits h

-- ---- a block's end

pub closes : {A : Type 0} (s : Said) (o : Option (OpenBlock A)) (p : OpenBlock A) (left : List ℕ) (b : Block) (bs : List Block) → o ≡ Some p → b ≡ block_seen left p → bs ≡ s.blocks ++ b ∷ []
    → outside (record s { blocks = bs }) ≡ closed (reading_with left s o)
closes s o p left b bs opened is grows =
    let said : List Block → Said = λ l. record s { blocks = l } in
    ap (λ (l : List Block). outside (said l)) (grows ∙ ap (λ (x : Block). s.blocks ++ x ∷ []) is) ∙ ap (λ q. closed (reading_with left s q)) (sym opened)

pub stays_closed : {A : Type 0} (s : Said) (o : Option (OpenBlock A)) (left : List ℕ) → o ≡ None → outside s ≡ closed (reading_with left s o)
stays_closed s o left none = ap (λ q. closed (reading_with left s q)) (sym none)

-- ---- a whole text

pub all_read : {A : Type 0} (n : ℕ) (s : Said) (o : Option (OpenBlock A)) (left text : List ℕ) → left ≡ [] → read_from n (reading_with left s o) (lines left) ≡ said_in text
    → said_in text ≡ finished (reading_with [] s o)
all_read n s o left text none says = sym says ∙ ap (λ (l : List ℕ). read_from n (reading_with l s o) (lines l)) none

pub ends_as : {W : Type 0} (r : Result W LineError) (seen : W → Said) (text last : Result Said LineError) → text ≡ last → MatchResult r (λ w. last ≡ Ok (seen w)) (λ e. last ≡ Err e)
    → MatchResult r (λ w. text ≡ Ok (seen w)) (λ e. IsTextFault e text)
ends_as (Ok w) seen text last same h = same ∙ h
ends_as (Err e) seen text last same h = inr (same ∙ h)

pub begun : {A : Type 0} (text : List ℕ) (s : Said) (o : Option (OpenBlock A)) → o ≡ None → s ≡ nothing_yet → read_from 1 (reading_with text s o) (lines text) ≡ said_in text
begun text s o none new = rw (none, new) refl
