use Rattle.std.proofs.Common.{◌∙◌, ap, length, [], ◌∷◌, arith}
use Rattle.rdata.proofs.StringsWire.{one_held, texts_held}
use Rattle.rdata.proofs.texts.Texts.new.Goals as goal

pub invariant_of-result : goal.invariant_of-result
invariant_of-result g c =
    let s = c.bytes.result.now in
    texts_held c.append.new.bytes.items (s ∷ []) (one_held c.new-wire.result.items c.append.new.bytes.items s c.new-wire.ensures.items c.in_ok-append.ensures.ok
    (omega (arith, ap length c.bytes.ensures.is, c.bytes.ensures.short))) (omega arith)

pub returns : goal.returns
returns g c =
    let s = c.bytes.result.now in
    (one_held c.new-wire.result.items c.append.new.bytes.items s c.new-wire.ensures.items c.in_ok-append.ensures.ok (omega (arith, ap length c.bytes.ensures.is, c.bytes.ensures.short))).same
    ∙ ap (λ x. x ∷ []) c.bytes.ensures.is
