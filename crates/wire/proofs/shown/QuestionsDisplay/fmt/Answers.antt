use Rattle.std.proofs.Common.{refl, ◌∙◌, ap, subst, List, ℕ}
use Rattle.std.proofs.lemmas.List.{take_all}
use Rattle.std.proofs.lemmas.Grind.{put_two}
use Rattle.std.specs.Prelude.{flat_map}
use Rattle.std.specs.Fmt.{HasWritten}
use Rattle.wire.specs.Shown.{question_line}
use Rattle.wire.proofs.Fitting.{lines_on}
use Rattle.wire.proofs.shown.QuestionsDisplay.fmt.Goals as goal

pub loop-question-preserved : goal.loop-question-preserved
unfolding question_line
loop-question-preserved g c plain =
    let before = c.loop-question.invariant plain in
    put_two g.W.Write.write_str_gives c.args.f.now c.loop-question.f c.write.new.self _ _ _ before (c.in_ok-write.ensures.writes before.plain refl)
    (lines_on question_line c.as_slice-question-items.result.now c.loop-question.question-index c.question-item.result c.loop-question-test.true c.question-item.is)

pub returns : goal.returns
returns g c = record {
  writes = λ plain ok. subst (λ (text : List ℕ). HasWritten g.W.Write.write_str_gives c.args.f.now text c.loop-question.f)
      (ap (flat_map question_line) (take_all c.loop-question.question-index c.as_slice-question-items.result.now c.loop-question-test.false ∙ c.as_slice-question-items.ensures))
      (c.loop-question.invariant plain);
  styled = tt;
}
