use Rattle.std.proofs.Common.{◌≡◌, ◌∷◌, length, sym, subst, ◌∙◌, ◌<◌, arith}
use Rattle.text_lines.specs.Lines.{words}
use Rattle.text_lines.proofs.Pieces.{no_word, one_word, over_zero, is_zero}
use Rattle.text_lines.proofs.line.LineWordsIterator.next.Goals as goal

pub loop-rest-preserved : goal.loop-rest-preserved
loop-rest-preserved c = record {
  text = c.first_piece.ensures.text;
  same = sym (no_word c.loop-rest.rest.now c.first_piece.result.0.now c.first_piece.result.1.now (over_zero _ (c.loop-rest-test.ensures {u = tt}))
      c.first_piece.ensures.piece c.first_piece.ensures.behind (is_zero _ (c.if-not-is_empty.ensures {u = tt}))) ∙ c.loop-rest.invariant.same;
}

pub returns-then-not-is_empty : goal.returns-then-not-is_empty
returns-then-not-is_empty c =
    let first : c.args.self.now ≡ c.first_piece.result.0.now ∷ words c.first_piece.result.1.now =
    sym c.self.view_is ∙ (sym c.loop-rest.invariant.same ∙ one_word c.loop-rest.rest.now c.first_piece.result.0.now c.first_piece.result.1.now
    (over_zero _ (c.loop-rest-test.ensures {u = tt})) c.first_piece.ensures.piece c.first_piece.ensures.behind (over_zero _ (c.if-not-is_empty.ensures {u = tt}))) in
    record {
      steps = first;
      goes = record { on = λ _. (tt, tt, subst (λ xs. length (words c.first_piece.result.1.now) < length xs) (sym first) (omega arith)); keeps = tt; rests = λ _. tt };
    }
