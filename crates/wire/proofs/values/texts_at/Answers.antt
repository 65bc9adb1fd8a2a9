use Rattle.std.proofs.Common.{Ok, ◌∙◌, ap, sym, subst, arith}
use Rattle.rdata.specs.Strings.{strings_of, IsTextsWire}
use Rattle.wire.proofs.TextsRead.{AreTaken, texts_taken}
use Rattle.wire.proofs.values.texts_at.Goals as goal

pub of_wire-requires : goal.of_wire-requires
of_wire-requires g c =
    let taken : AreTaken c.args.bytes.now c.args.at c.args.end =
    texts_taken c.args.bytes.now c.args.at c.args.end c.in_ok-texts_end.field-0 (λ i. omega (arith, c.type_inv.bytes i)) c.requires c.in_ok-texts_end.ensures in
    subst (λ x. IsTextsWire x) (sym c.in_ok-wire.ensures.items) taken.form

pub returns : goal.returns
returns g c =
    let taken : AreTaken c.args.bytes.now c.args.at c.args.end =
    texts_taken c.args.bytes.now c.args.at c.args.end c.in_ok-texts_end.field-0 (λ i. omega (arith, c.type_inv.bytes i)) c.requires c.in_ok-texts_end.ensures in
    taken.read ∙ ap (λ x. Ok x) (sym (c.of_wire.ensures ∙ (ap strings_of c.in_ok-wire.ensures.items ∙ taken.same)))
