use Rattle.std.proofs.Common.{◌∙◌, ap, length, subst, sym, arith}
use Rattle.std.specs.List.{AllByRecursion}
use Rattle.message_grammar.specs.Pieces.{put_flat, plain_bytes}
use Rattle.rdata.specs.Strings.{IsShort}
use Rattle.wire.proofs.TextsRead.{in_wire_form, all_fit}
use Rattle.wire.proofs.writer.Writer.put_texts.Goals as goal

pub returns-clause-written : goal.returns-clause-written
returns-clause-written g c = c.in_ok-put_bytes.ensures ∙ ap (λ b. put_flat c.args.self.now (plain_bytes b)) (c.wire.ensures.is ∙ sym (in_wire_form c.args.texts.now))

pub returns-clause-fits : goal.returns-clause-fits
returns-clause-fits g c = (omega (arith, ap length c.wire.ensures.strings, c.wire.ensures.form.some), all_fit c.args.texts.now (subst (AllByRecursion IsShort) c.wire.ensures.strings c.wire.ensures.form.strings.short))
