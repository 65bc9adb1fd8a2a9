-- The parts of a text by cases are what the functions find, and the other way round.
use Rattle.std.proofs.Common.{◌≡◌, ℕ, zero, suc, ◌+◌, ◌<◌, ◌≤◌, Bool, true, false, List, [], ◌∷◌, length, refl, sym, subst, ap, ◌∙◌, arith}
use Rattle.master_lexer.specs.Lexemes.{Word, plain, quoted, broken, Lexeme, gap, line_end, opens, closes, item, first}
use Rattle.master_lexer.specs.Entries.{Entry, Text, lead, next_entry, with_word, from_lexeme, text_from}
use Rattle.master_lexer.specs.Parts.{Parts, text_ends, gap_stands, line_goes_on, entry_ends, bracket_opens, bracket_closes, word_stands, AreWhole, AreWholeEntries, PartsBothWays}
use Rattle.master_lexer.proofs.Heads.{IsFirst, IsHead, gap_head, plain_head, quoted_head, first_says}
use Rattle.master_lexer.proofs.Fuel.{first-shorter, text-first, text-end}

at : (line : ℕ) (inside : Bool) (cs : List ℕ) (x : Lexeme) (after : List ℕ) → IsHead cs x after → text_from line inside cs ≡ from_lexeme text_from line inside x after
at line inside cs x after h = text-first line inside cs x after h.nonempty h.starts h.rest

byte_head : (c : ℕ) (cs rest : List ℕ) (x : Lexeme) → cs ≡ c ∷ rest → IsHead (c ∷ rest) x rest → IsHead cs x rest
byte_head c cs rest x e h = rw e h

pub found : (line : ℕ) (inside : Bool) (cs : List ℕ) (ws : List Word) (es : List Entry) → Parts line inside cs ws es → text_from line inside cs ≡ record { words = ws; later = es }
found _ _ _ _ _ (text_ends line inside cs ws es i c w e) = rw (i, c, w, e) (text-end line false)
found _ _ _ _ _ (gap_stands line inside cs ws es rest g p) = at line inside cs gap rest (gap_head cs rest g) ∙ found line inside rest ws es p
found _ _ _ _ _ (line_goes_on line inside cs ws es rest i c p) =
    rw i (at line true cs line_end rest (byte_head 10 cs rest line_end c (record { nonempty = omega arith; starts = refl; rest = refl })) ∙ found (line + 1) true rest ws es p)
found _ _ _ _ _ (entry_ends line inside cs ws es rest next later i c w e p) =
    rw (i, w, e) (at line false cs line_end rest (byte_head 10 cs rest line_end c (record { nonempty = omega arith; starts = refl; rest = refl }))
    ∙ ap (next_entry (line + 1) (lead rest)) (found (line + 1) false rest next later p))
found _ _ _ _ _ (bracket_opens line inside cs ws es rest i c p) =
    rw i (at line false cs opens rest (byte_head 40 cs rest opens c (record { nonempty = omega arith; starts = refl; rest = refl })) ∙ found line true rest ws es p)
found _ _ _ _ _ (bracket_closes line inside cs ws es rest i c p) =
    rw i (at line true cs closes rest (byte_head 41 cs rest closes c (record { nonempty = omega arith; starts = refl; rest = refl })) ∙ found line false rest ws es p)
found _ _ _ _ _ (word_stands line inside cs ws es rest (plain w) next h e p) =
    rw e (at line inside cs (item (plain w)) rest (plain_head w rest cs h) ∙ ap (with_word (plain w)) (found line inside rest next es p))
found _ _ _ _ _ (word_stands line inside cs ws es rest (quoted w) next h e p) =
    rw e (at line inside cs (item (quoted w)) rest (quoted_head w rest cs h) ∙ ap (with_word (quoted w)) (found line inside rest next es p))
found _ _ _ _ _ (word_stands line inside cs ws es rest broken next h e p) = absurd h

abbrev IsWhole : Text → Type 0
IsWhole t = AreWhole t.words × AreWholeEntries t.later

abbrev Parted : ℕ → Bool → List ℕ → Text → Type 0
Parted line inside cs t = Parts line inside cs t.words t.later

step_says : (line : ℕ) (inside : Bool) (cs : List ℕ) (x : Lexeme) (after : List ℕ) → IsFirst cs x after
    → ((l : ℕ) (b : Bool) → IsWhole (text_from l b after) → Parted l b after (text_from l b after))
    → IsWhole (from_lexeme text_from line inside x after) → Parted line inside cs (from_lexeme text_from line inside x after)
step_says line inside cs gap after f go w = gap_stands _ _ _ _ _ after f (go line inside w)
step_says line true cs line_end after f go w = line_goes_on _ _ _ _ _ after refl f (go (line + 1) true w)
step_says line false cs line_end after f go w = entry_ends _ _ _ _ _ after _ _ refl f refl refl (go (line + 1) false (w.1.0, w.1.1))
step_says line true cs opens after f go w = absurd w.0
step_says line false cs opens after f go w = bracket_opens _ _ _ _ _ after refl f (go line true w)
step_says line true cs closes after f go w = bracket_closes _ _ _ _ _ after refl f (go line false w)
step_says line false cs closes after f go w = absurd w.0
step_says line inside cs (item (plain x)) after f go w = word_stands _ _ _ _ _ after (plain x) _ f refl (go line inside (w.0, w.1))
step_says line inside cs (item (quoted x)) after f go w = word_stands _ _ _ _ _ after (quoted x) _ f refl (go line inside (w.0, w.1))
step_says line inside cs (item broken) after f go w = absurd w.0

all_parts : (n line : ℕ) (inside : Bool) (cs : List ℕ) → length cs ≤ n → IsWhole (text_from line inside cs) → Parted line inside cs (text_from line inside cs)
all_parts n line true [] h w = let v = rw text-end at w in absurd v.0
all_parts n line false [] h w = rw text-end (text_ends _ _ _ _ _ refl refl refl refl)
all_parts zero line inside (c ∷ cs) h w = absurd (omega arith)
all_parts (suc n) line inside (c ∷ cs) h w =
    let s : length (first (c ∷ cs)).after < length (c ∷ cs) = first-shorter c cs in
    let e : text_from line inside (c ∷ cs) ≡ from_lexeme text_from line inside (first (c ∷ cs)).lexeme (first (c ∷ cs)).after
    = text-first line inside (c ∷ cs) (first (c ∷ cs)).lexeme (first (c ∷ cs)).after (omega arith) refl refl in
    let v = rw e at w in
    rw e (step_says line inside (c ∷ cs) (first (c ∷ cs)).lexeme (first (c ∷ cs)).after (first_says c cs) (λ l b. all_parts n l b (first (c ∷ cs)).after (omega arith)) v)

-- parts are never broken
whole : (line : ℕ) (inside : Bool) (cs : List ℕ) (ws : List Word) (es : List Entry) → Parts line inside cs ws es → AreWhole ws × AreWholeEntries es
whole _ _ _ _ _ (text_ends line inside cs ws es i c w e) = rw (w, e) (tt, tt)
whole _ _ _ _ _ (gap_stands line inside cs ws es rest g p) = whole line inside rest ws es p
whole _ _ _ _ _ (line_goes_on line inside cs ws es rest i c p) = whole (line + 1) true rest ws es p
whole _ _ _ _ _ (entry_ends line inside cs ws es rest next later i c w e p) = rw (w, e) (tt, whole (line + 1) false rest next later p)
whole _ _ _ _ _ (bracket_opens line inside cs ws es rest i c p) = whole line true rest ws es p
whole _ _ _ _ _ (bracket_closes line inside cs ws es rest i c p) = whole line false rest ws es p
whole _ _ _ _ _ (word_stands line inside cs ws es rest (plain w) next h e p) = rw e (whole line inside rest next es p)
whole _ _ _ _ _ (word_stands line inside cs ws es rest (quoted w) next h e p) = rw e (whole line inside rest next es p)
whole _ _ _ _ _ (word_stands line inside cs ws es rest broken next h e p) = absurd h

pub parts_are_found : PartsBothWays
parts_are_found line cs es = (
  λ p. (let e : text_from line false cs ≡ record { words = p.0; later = p.1 } = found line false cs p.0 p.1 p.3 in (rw e (sym p.2), rw p.2 (whole line false cs p.0 p.1 p.3))),
  λ h. (let v : AreWholeEntries (record { line = line; lead = lead cs; words = (text_from line false cs).words } ∷ (text_from line false cs).later) = subst AreWholeEntries (sym h.0) h.1 in
      ((text_from line false cs).words, (text_from line false cs).later, sym h.0, all_parts (length cs) line false cs (omega arith) v)),
)
