use Rattle.std.proofs.Common.{◌∙◌, nat_eq}
use Rattle.std.specs.Cmp.Lexicographic.{pointwise}
use Rattle.rdata.proofs.StringsWire.{compared}
use Rattle.rdata.proofs.texts.Texts.is_same.Goals as goal

pub returns : goal.returns
returns g c =
    c.eq.ensures
    ∙ (compared c.wire.result.now c.wire-2.result.now c.wire.ensures.form c.wire-2.ensures.form
    ∙ (λ i. pointwise (pointwise nat_eq) (c.wire.ensures.strings i) (c.wire-2.ensures.strings i)))
