-- Character-strings, as they are printed in quotes, are read as these strings.
use Rattle.std.proofs.Common.{◌≡◌, ℕ, ◌+◌, ◌<◌, ◌≤◌, true, false, nat_le, Some, Ok, List, [], ◌∷◌, ◌++◌, length, flat_map, refl, ap, ◌∙◌, arith}
use Rattle.std.proofs.lemmas.Bool.Decides.{nat_tests}
use Rattle.dname.specs.Spelling.{AreBytes}
use Rattle.rdata.specs.Text.{glyph}
use Rattle.master_lexer.specs.Lexemes.{Word, quoted}
use Rattle.master_lexer.specs.Lines.{is_quotable, AreWritable}
use Rattle.masterfile.specs.Strings.{unescaped, byte_onto, string_of, strings_from, take_strings}
use Rattle.masterfile.specs.MasterText.{strings_size}
use Rattle.masterfile.specs.ReadBack.{AreCharacterStrings}

glyph_back : (b : ℕ) (cs : List ℕ) → b < 256 → unescaped (glyph b ++ cs) ≡ byte_onto b (unescaped cs)
glyph_back b cs h = grind (arith, nat_tests)

glyph_inside : (b : ℕ) (cs : List ℕ) → b < 256 → is_quotable false (glyph b ++ cs) ≡ is_quotable false cs
glyph_inside b cs h = grind (arith, nat_tests)

glyphs_back : (s : List ℕ) → AreBytes s → unescaped (flat_map glyph s) ≡ Some s
glyphs_back [] h = refl
glyphs_back (b ∷ s) h = glyph_back b (flat_map glyph s) h.0 ∙ ap (byte_onto b) (glyphs_back s h.1)

glyphs_inside : (s : List ℕ) → AreBytes s → is_quotable false (flat_map glyph s) ≡ true
glyphs_inside [] h = refl
glyphs_inside (b ∷ s) h = glyph_inside b (flat_map glyph s) h.0 ∙ glyphs_inside s h.1

string_back : (s : List ℕ) → AreBytes s → length s ≤ 255 → string_of (flat_map glyph s) ≡ Ok s
string_back s h k = rw (glyphs_back s h) (grind (arith, nat_tests))

-- The words of strings.
abbrev pub string_words : List (List ℕ) → List Word
string_words [] = []
string_words (t ∷ ts) = quoted (flat_map glyph t) ∷ string_words ts

next_string : (size : ℕ) (t : List ℕ) (ts : List (List ℕ)) → AreBytes t → length t ≤ 255 → size + (1 + length t) ≤ 65535
    → strings_from (size + (1 + length t)) (string_words ts) ≡ Ok ts → strings_from size (string_words (t ∷ ts)) ≡ Ok (t ∷ ts)
next_string size t ts h k fit e =
    let room : nat_le (size + (1 + length t)) 65535 ≡ true = grind (arith, nat_tests) in rw (string_back t h k, room, e) refl

strings_read : (size : ℕ) (ts : List (List ℕ)) → AreCharacterStrings ts → size + strings_size ts ≤ 65535 → strings_from size (string_words ts) ≡ Ok ts
strings_read size [] h fit = refl
strings_read size (t ∷ ts) h fit = next_string size t ts h.0 h.1 (omega arith) (strings_read (size + (1 + length t)) ts h.2 (omega arith))

pub strings_back : (ts : List (List ℕ)) → 0 < length ts → AreCharacterStrings ts → strings_size ts ≤ 65535 → take_strings (string_words ts) ≡ Ok ts
strings_back [] some h fit = absurd (omega arith)
strings_back (t ∷ ts) some h fit = strings_read 0 (t ∷ ts) h (omega arith)

pub strings_writable : (ts : List (List ℕ)) → AreCharacterStrings ts → AreWritable (string_words ts)
strings_writable [] h = tt
strings_writable (t ∷ ts) h = (glyphs_inside t h.0, strings_writable ts h.2)
