use Rattle.std.proofs.Common.{◌∙◌, ap, length, [], ◌∷◌, ◌++◌, arith}
use Rattle.rdata.specs.Strings.{strings_of}
use Rattle.rdata.proofs.StringsWire.{more_held, texts_held, some_more}
use Rattle.rdata.proofs.texts.Texts.push.Goals as goal

pub invariant_of-self-2 : goal.invariant_of-self-2
invariant_of-self-2 g c =
    let old = c.self.inside.wire.items in
    let s = c.bytes.result.now in
    texts_held c.append.new.bytes.items (strings_of old ++ s ∷ []) (more_held old c.append.new.bytes.items s c.self.invariant.strings c.in_ok-append.ensures.ok
    (omega (arith, ap length c.bytes.ensures.is, c.bytes.ensures.short))) (some_more (strings_of old) s)

pub returns-clause-ok : goal.returns-clause-ok
returns-clause-ok g c =
    let old = c.self.inside.wire.items in
    let s = c.bytes.result.now in
    (more_held old c.append.new.bytes.items s c.self.invariant.strings c.in_ok-append.ensures.ok (omega (arith, ap length c.bytes.ensures.is, c.bytes.ensures.short))).same
    ∙ (λ i. c.self.view_is i ++ c.bytes.ensures.is i ∷ [])
