-- The first one that is left, or none.
use Rattle.std.proofs.Common.{◌+◌, ◌<◌, ◌∙◌, refl, ap, subst, List, length, arith}
use Rattle.score.specs.declared.sends.Mark.{Mark}
use Rattle.score.specs.Sends.{Passage, IsLowest}
use Rattle.score.proofs.Left.{is_lowest, none_lowest, off_next, one_taken, still_inside}
use Rattle.score.proofs.sends.Sends.take_lowest.Goals as goal

pub invariant_of-self-in-Some : goal.invariant_of-self-in-Some
invariant_of-self-in-Some g c =
    let low : IsLowest c.self.inside.marks.items c.self.inside.passed c.in-Some.place =
    subst (λ (ms : List Mark). IsLowest ms c.self.inside.passed c.in-Some.place) c.deref.ensures.value c.in-Some.ensures in
    let inside : c.in-Some.place < length c.self.inside.marks.items = low.inside in
    (still_inside (c.in-Some.place + 1) c.in-Some.place c.self.inside.marks.items _ (omega arith), one_taken c.self.inside.marks.items c.in-Some.place _ inside low.none refl)

pub returns-in-None-clause-lowest : goal.returns-in-None-clause-lowest
returns-in-None-clause-lowest g c =
    none_lowest c.deref.result.now c.args.self.now.marks (c.deref.ensures.value ∙ ap (λ (p : Passage). p.marks) c.self.view_is) c.in-None.ensures

pub returns-in-Some-clause-lowest : goal.returns-in-Some-clause-lowest
returns-in-Some-clause-lowest g c =
    is_lowest c.deref.result.now c.args.self.now.marks c.self.inside.passed c.in-Some.place
    (c.deref.ensures.value ∙ ap (λ (p : Passage). p.marks) c.self.view_is) c.in-Some.ensures

pub returns-in-Some-clause-some : goal.returns-in-Some-clause-some
returns-in-Some-clause-some g c =
    let low : IsLowest c.self.inside.marks.items c.self.inside.passed c.in-Some.place =
    subst (λ (ms : List Mark). IsLowest ms c.self.inside.passed c.in-Some.place) c.deref.ensures.value c.in-Some.ensures in
    let passed = ap (λ (p : Passage). p.passed) c.self.view_is in
    let behind = low.behind in
    (off_next c.self.inside.marks.items c.args.self.now.marks c.in-Some.place c.index_mut.result.now (ap (λ (p : Passage). p.marks) c.self.view_is) low.inside c.index_mut.ensures.value, omega arith)

pub returns-in-Some-clause-bound : goal.returns-in-Some-clause-bound
returns-in-Some-clause-bound g c =
    let low : IsLowest c.self.inside.marks.items c.self.inside.passed c.in-Some.place =
    subst (λ (ms : List Mark). IsLowest ms c.self.inside.passed c.in-Some.place) c.deref.ensures.value c.in-Some.ensures in
    let passed = ap (λ (p : Passage). p.passed) c.self.view_is in
    let inside = low.inside in
    let behind = low.behind in
    omega arith
