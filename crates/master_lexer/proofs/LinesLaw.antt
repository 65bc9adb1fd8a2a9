-- Lines of words are read as an entry each.
use Rattle.std.proofs.Common.{◌≡◌, ℕ, ◌+◌, ◌==◌, Bool, true, false, ◌&&◌, not, List, [], ◌∷◌, ◌++◌, refl, ap, ◌∙◌, arith}
use Rattle.std.proofs.lemmas.Bool.Decides.{nat_tests}
use Rattle.master_lexer.specs.Lexemes.{Word, plain, quoted, broken, ends_word}
use Rattle.master_lexer.specs.Entries.{Entry, Lead, margin, Text, lead, next_entry, text_from}
use Rattle.master_lexer.specs.Lines.{line_of, lines_of, is_plain, IsWritable, AreWritable, with_words, LinesAreReadBack}
use Rattle.master_lexer.proofs.Fuel.{text-end}
use Rattle.master_lexer.proofs.LineLaw.{line_is_read}

begins_word : (c : ℕ) (cs : List ℕ) (b : Bool) → (not (ends_word c) && b) ≡ true → lead (c ∷ cs) ≡ margin
begins_word c cs b h = grind (arith, nat_tests)

-- a word that can be written stands at the line's start
word_leads : (w : Word) (ws : List Word) (rest : List ℕ) → IsWritable w → lead (line_of (w ∷ ws) ++ rest) ≡ margin
word_leads (plain []) ws rest h = absurd (omega (arith, h.0))
word_leads (plain (c ∷ w)) [] rest h = begins_word c ((w ++ 10 ∷ []) ++ rest) (is_plain (c == 92) w) h.1
word_leads (plain (c ∷ w)) (v ∷ ws) rest h = begins_word c ((w ++ 32 ∷ line_of (v ∷ ws)) ++ rest) (is_plain (c == 92) w) h.1
word_leads (quoted s) [] rest h = refl
word_leads (quoted s) (v ∷ ws) rest h = refl
word_leads broken ws rest h = absurd h

line_leads : (ws : List Word) (rest : List ℕ) → AreWritable ws → lead (line_of ws ++ rest) ≡ margin
line_leads [] rest h = refl
line_leads (w ∷ ws) rest h = word_leads w ws rest h.0

-- words behind which an entry ends
whole_entry : (ws : List Word) (t : Text) → t.words ≡ [] → with_words ws t ≡ record { words = ws; later = t.later }
whole_entry [] t e = ap (λ (x : List Word). record { words = x; later = t.later }) e
whole_entry (w ∷ ws) t e = ap (λ (x : Text). record { words = w ∷ x.words; later = x.later }) (whole_entry ws t e)

abbrev opened : ℕ → Lead → Text → List Entry
opened line l t = (next_entry line l t).later

pub lines_are_read : LinesAreReadBack
lines_are_read line [] h = ap (λ (t : Text). opened line margin t) (text-end line false)
lines_are_read line (ws ∷ wss) h =
    let rest : List ℕ = lines_of wss in
    let behind : Text = next_entry (line + 1) (lead rest) (text_from (line + 1) false rest) in
    ap (λ (l : Lead). opened line l (text_from line false (line_of ws ++ rest))) (line_leads ws rest h.0)
    ∙ (ap (λ (t : Text). opened line margin t) (line_is_read line ws rest h.0)
    ∙ (ap (λ (t : Text). opened line margin t) (whole_entry ws behind refl)
    ∙ ap (λ (es : List Entry). record { line = line; lead = margin; words = ws } ∷ es) (lines_are_read (line + 1) wss h.1)))
