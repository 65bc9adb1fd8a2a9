-- A line of words is read as these words.
use Rattle.std.proofs.Common.{◌≡◌, ℕ, ◌+◌, ◌==◌, Bool, true, false, ◌&&◌, not, Some, List, [], ◌∷◌, ◌++◌, length, refl, ap, ◌∙◌, arith, append_assoc, one-add}
use Rattle.master_lexer.specs.Lexemes.{Word, plain, quoted, broken, Lexeme, gap, line_end, item, ends_word, word_size, quote_size}
use Rattle.master_lexer.specs.Entries.{lead, next_entry, with_word, from_lexeme, text_from}
use Rattle.master_lexer.specs.Lines.{written, line_of, is_plain, is_quotable, IsWritable, LineIsReadBack}
use Rattle.master_lexer.proofs.Heads.{IsHead, plain_head, quoted_head}
use Rattle.master_lexer.proofs.Fuel.{text-first}

both : (a b : Bool) → (a && b) ≡ true → (a ≡ true) × (b ≡ true)
both true b e = (refl, e)
both false b e = cc

off : (a : Bool) → not a ≡ true → a ≡ false
off true e = cc
off false e = refl

plain_stands : (b : Bool) (w : List ℕ) (t : ℕ) (rest : List ℕ) → ends_word t ≡ true → is_plain b w ≡ true → word_size b (w ++ t ∷ rest) ≡ length w
plain_stands true [] t rest h p = cc
plain_stands false [] t rest h p = rw h refl
plain_stands true (c ∷ w) t rest h p =
    let q = both (not (c == 10)) (is_plain false w) p in
    rw (off (c == 10) q.0, plain_stands false w t rest h q.1) (one-add (length w))
plain_stands false (c ∷ w) t rest h p =
    let q = both (not (ends_word c)) (is_plain (c == 92) w) p in
    rw (off (ends_word c) q.0, plain_stands (c == 92) w t rest h q.1) (one-add (length w))

quote_stands : (b : Bool) (s rest : List ℕ) → is_quotable b s ≡ true → quote_size b (s ++ 34 ∷ rest) ≡ Some (length s)
quote_stands true [] rest p = cc
quote_stands false [] rest p = refl
quote_stands true (c ∷ s) rest p =
    let q = both (not (c == 10)) (is_quotable false s) p in
    rw (off (c == 10) q.0, quote_stands false s rest q.1) (ap Some (one-add (length s)))
quote_stands false (c ∷ s) rest p =
    let q = both (not (c == 10)) (not (c == 34) && is_quotable (c == 92) s) p in
    let r = both (not (c == 34)) (is_quotable (c == 92) s) q.1 in
    rw (off (c == 10) q.0, off (c == 34) r.0, quote_stands (c == 92) s rest r.1) (ap Some (one-add (length s)))

head_says : (line : ℕ) (cs : List ℕ) (x : Lexeme) (rest : List ℕ) → IsHead cs x rest → text_from line false cs ≡ from_lexeme text_from line false x rest
head_says line cs x rest h = text-first line false cs x rest h.nonempty h.starts h.rest

-- a word, and what ends it
word_says : (line : ℕ) (w : Word) (t : ℕ) (rest : List ℕ) → ends_word t ≡ true → IsWritable w → text_from line false (written w ++ t ∷ rest) ≡ with_word w (text_from line false (t ∷ rest))
word_says line (plain w) t rest h p =
    head_says line (w ++ t ∷ rest) (item (plain w)) (t ∷ rest) (plain_head w (t ∷ rest) (w ++ t ∷ rest) (refl, p.0, plain_stands false w t rest h p.1))
word_says line (quoted s) t rest h p =
    let e : 34 ∷ ((s ++ 34 ∷ []) ++ t ∷ rest) ≡ 34 ∷ (s ++ 34 ∷ t ∷ rest) = ap (λ (x : List ℕ). 34 ∷ x) (append_assoc s (34 ∷ []) (t ∷ rest)) in
    ap (text_from line false) e
    ∙ head_says line (34 ∷ (s ++ 34 ∷ t ∷ rest)) (item (quoted s)) (t ∷ rest) (quoted_head s (t ∷ rest) (34 ∷ (s ++ 34 ∷ t ∷ rest)) (refl, quote_stands false s (t ∷ rest) p))
word_says line broken t rest h p = absurd p

space_says : (line : ℕ) (rest : List ℕ) → text_from line false (32 ∷ rest) ≡ text_from line false rest
space_says line rest = head_says line (32 ∷ rest) gap rest (record { nonempty = omega arith; starts = refl; rest = refl })

end_says : (line : ℕ) (rest : List ℕ) → text_from line false (10 ∷ rest) ≡ next_entry (line + 1) (lead rest) (text_from (line + 1) false rest)
end_says line rest = head_says line (10 ∷ rest) line_end rest (record { nonempty = omega arith; starts = refl; rest = refl })

pub line_is_read : LineIsReadBack
line_is_read line [] rest h = end_says line rest
line_is_read line (w ∷ []) rest h =
    ap (text_from line false) (append_assoc (written w) (10 ∷ []) rest) ∙ (word_says line w 10 rest refl h.0 ∙ ap (with_word w) (end_says line rest))
line_is_read line (w ∷ v ∷ ws) rest h =
    ap (text_from line false) (append_assoc (written w) (32 ∷ line_of (v ∷ ws)) rest)
    ∙ (word_says line w 32 (line_of (v ∷ ws) ++ rest) refl h.0 ∙ ap (with_word w) (space_says line (line_of (v ∷ ws) ++ rest) ∙ line_is_read line (v ∷ ws) rest h.1))
