-- The one of that number, wherever it stands.
use Rattle.std.proofs.Common.{refl, ap, arith}
use Rattle.score.specs.Sends.{Passage}
use Rattle.score.proofs.Left.{off_at, still_inside, still_none}
use Rattle.score.proofs.sends.Sends.take_off.Goals as goal

pub invariant_of-self : goal.invariant_of-self
invariant_of-self g c = (
  still_inside c.self.inside.passed c.in-Some.place c.self.inside.marks.items _ c.self.invariant.0,
  still_none c.self.inside.passed c.in-Some.place c.self.inside.marks.items _ c.self.invariant.1 refl,
)

pub returns-then-place-len-clause-marks : goal.returns-then-place-len-clause-marks
returns-then-place-len-clause-marks g c =
    off_at c.self.inside.marks.items c.args.self.now.marks c.in-Some.place c.args.number c.index_mut.result.now (ap (λ (p : Passage). p.marks) c.self.view_is)
    c.in-Some.ensures (omega arith) c.index_mut.ensures.value
