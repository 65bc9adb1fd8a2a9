use Rattle.std.proofs.Common.{◌∙◌, length, sym, ap, arith}
use Rattle.message_grammar.specs.Messages.{Question, Message}
use Rattle.wire.specs.declared.parts.Faults.{Faults}
use Rattle.wire.specs.Numbers.{two_at}
use Rattle.wire.specs.Parts.{name_at}
use Rattle.wire.specs.Views.{labels_in}
use Rattle.wire.proofs.Viewed.{asked_one, is_asked, other_number}
use Rattle.wire.proofs.view.View.question.Goals as goal

pub returns-then-count-ne1 : goal.returns-then-count-ne1
returns-then-count-ne1 g c = λ q is.
    other_number c.self.inside.bytes.now (two_at c.self.inside.bytes.now 4) c.self.inside.answer q c.self.invariant.asks (λ e. c.if-count-ne1.true (c.two_at-count.ensures ∙ e))
    (ap (λ (m : Message). m.questions) c.self.view_is ∙ is)

pub overflow_sub-self-inside : goal.overflow_sub-self-inside
overflow_sub-self-inside g c =
    (asked_one c.self.inside.bytes.now (two_at c.self.inside.bytes.now 4) c.self.inside.answer (sym c.two_at-count.ensures ∙ c.if-count-ne1.false) c.self.invariant.asks).first

pub two_at-qtype-requires : goal.two_at-qtype-requires
two_at-qtype-requires g c =
    let one = asked_one c.self.inside.bytes.now (two_at c.self.inside.bytes.now 4) c.self.inside.answer (sym c.two_at-count.ensures ∙ c.if-count-ne1.false) c.self.invariant.asks in
    let first = one.first in
    let within = one.within in
    omega arith

pub overflow_sub-self-inside-2 : goal.overflow_sub-self-inside-2
overflow_sub-self-inside-2 g c =
    let first = (asked_one c.self.inside.bytes.now (two_at c.self.inside.bytes.now 4) c.self.inside.answer (sym c.two_at-count.ensures ∙ c.if-count-ne1.false) c.self.invariant.asks).first in
    omega arith

pub two_at-qclass-requires : goal.two_at-qclass-requires
two_at-qclass-requires g c =
    let one = asked_one c.self.inside.bytes.now (two_at c.self.inside.bytes.now 4) c.self.inside.answer (sym c.two_at-count.ensures ∙ c.if-count-ne1.false) c.self.invariant.asks in
    let first = one.first in
    let within = one.within in
    omega arith

pub returns-in-Ok : goal.returns-in-Ok
returns-in-Ok g c =
    let bytes = c.self.inside.bytes.now in
    let alone = sym c.two_at-count.ensures ∙ c.if-count-ne1.false in
    let one = asked_one bytes (two_at bytes 4) c.self.inside.answer alone c.self.invariant.asks in
    let asked : Question = record { name = c.in-Ok.name; qtype = c.two_at-qtype.result; qclass = c.two_at-qclass.result } in
    let named = ap (λ (f : Faults). labels_in (name_at bytes f (length bytes) 12)) (sym c.in_message-faults.ensures) ∙ ap labels_in c.in-Ok.ensures.is in
    sym (ap (λ (m : Message). m.questions) c.self.view_is)
    ∙ is_asked bytes c.self.inside.answer one asked (two_at bytes 4) alone named (sym c.two_at-qtype.ensures) (sym c.two_at-qclass.ensures)
