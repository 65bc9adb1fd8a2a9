use Rattle.std.proofs.Common.{◌≡◌, ℕ, ◌+◌, ◌<◌, List, [], ◌∷◌, ◌++◌, length, take, get_or, refl, sym, ◌∙◌, ap}
use Rattle.std.proofs.lemmas.List.{append-nil, take_more}
use Rattle.std.proofs.lemmas.Grind.{flat_map-append, put_two}
use Rattle.std.specs.List.{flat_map}
use Rattle.rdata.specs.Text.{glyph}
use Rattle.rdata.proofs.text.write_quoted.Goals as goal

one_more : (string : List ℕ) (i : ℕ) → i < length string
    → (34 ∷ flat_map glyph (take i string)) ++ glyph (get_or string i 0) ≡ 34 ∷ flat_map glyph (take (i + 1) string)
one_more string i less =
    ap (λ l. 34 ∷ l)
    (ap (λ l. flat_map glyph (take i string) ++ l) (sym (append-nil (glyph (get_or string i 0))))
    ∙ (sym (flat_map-append glyph (take i string) (get_or string i 0 ∷ [])) ∙ ap (flat_map glyph) (sym (take_more string i 0 less))))

pub loop-byte-preserved : goal.loop-byte-preserved
loop-byte-preserved g c plain =
    let before = c.loop-byte.invariant plain in
    put_two g.W.Write.write_str_gives c.args.f.now c.loop-byte.f c.write_byte.new.f _ _ _ before (c.in_ok-write_byte.ensures before.plain refl)
    (one_more c.args.string.now c.loop-byte.byte-index c.loop-byte-test.true)
