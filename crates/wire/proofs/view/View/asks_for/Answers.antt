use Rattle.std.proofs.Common.{◌∙◌, length, sym, ap, arith}
use Rattle.dname.specs.Laws.{same_name-exact, same_name-equal}
use Rattle.message_grammar.specs.Messages.{Question, Message}
use Rattle.wire.specs.Numbers.{two_at}
use Rattle.wire.specs.Parts.{message_faults, name_at}
use Rattle.wire.specs.Views.{labels_in}
use Rattle.wire.proofs.Viewed.{asked_one, asked_type, asked_class, asked_name, is_asked, other_number}
use Rattle.wire.proofs.view.View.asks_for.Goals as goal

pub returns-then-two_at-ne1 : goal.returns-then-two_at-ne1
returns-then-two_at-ne1 g c =
    let bytes = c.self.inside.bytes.now in
    let asked : Question = record { name = c.args.name.now; qtype = c.args.qtype; qclass = c.args.qclass } in
    let seen = sym (ap (λ (m : Message). m.questions) c.self.view_is) in (
      λ no. absurd (cc),
      λ is. absurd (other_number bytes (two_at bytes 4) c.self.inside.answer asked c.self.invariant.asks (λ e. c.if-two_at-ne1.true (c.two_at.ensures ∙ e)) (sym seen ∙ is)),
    )

pub overflow_sub-self-inside : goal.overflow_sub-self-inside
overflow_sub-self-inside g c =
    (asked_one c.self.inside.bytes.now (two_at c.self.inside.bytes.now 4) c.self.inside.answer (sym c.two_at.ensures ∙ c.if-two_at-ne1.false) c.self.invariant.asks).first

pub two_at-requires-2 : goal.two_at-requires-2
two_at-requires-2 g c =
    let one = asked_one c.self.inside.bytes.now (two_at c.self.inside.bytes.now 4) c.self.inside.answer (sym c.two_at.ensures ∙ c.if-two_at-ne1.false) c.self.invariant.asks in
    let first = one.first in
    let within = one.within in
    omega arith

pub returns-then-two_at-qtype : goal.returns-then-two_at-qtype
returns-then-two_at-qtype g c =
    let bytes = c.self.inside.bytes.now in
    let alone = sym c.two_at.ensures ∙ c.if-two_at-ne1.false in
    let one = asked_one bytes (two_at bytes 4) c.self.inside.answer alone c.self.invariant.asks in
    let asked : Question = record { name = c.args.name.now; qtype = c.args.qtype; qclass = c.args.qclass } in
    let seen = sym (ap (λ (m : Message). m.questions) c.self.view_is) in (
      λ no. absurd (cc),
      λ is. absurd (c.if-two_at-qtype.true (c.two_at-2.ensures ∙ asked_type bytes c.self.inside.answer one asked (two_at bytes 4) alone (sym seen ∙ is))),
    )

pub overflow_sub-self-inside-2 : goal.overflow_sub-self-inside-2
overflow_sub-self-inside-2 g c =
    let first = (asked_one c.self.inside.bytes.now (two_at c.self.inside.bytes.now 4) c.self.inside.answer (sym c.two_at.ensures ∙ c.if-two_at-ne1.false) c.self.invariant.asks).first in
    omega arith

pub two_at-requires-3 : goal.two_at-requires-3
two_at-requires-3 g c =
    let one = asked_one c.self.inside.bytes.now (two_at c.self.inside.bytes.now 4) c.self.inside.answer (sym c.two_at.ensures ∙ c.if-two_at-ne1.false) c.self.invariant.asks in
    let first = one.first in
    let within = one.within in
    omega arith

pub returns-then-two_at-qclass : goal.returns-then-two_at-qclass
returns-then-two_at-qclass g c =
    let bytes = c.self.inside.bytes.now in
    let alone = sym c.two_at.ensures ∙ c.if-two_at-ne1.false in
    let one = asked_one bytes (two_at bytes 4) c.self.inside.answer alone c.self.invariant.asks in
    let asked : Question = record { name = c.args.name.now; qtype = c.args.qtype; qclass = c.args.qclass } in
    let seen = sym (ap (λ (m : Message). m.questions) c.self.view_is) in (
      λ no. absurd (cc),
      λ is. absurd (c.if-two_at-qclass.true (c.two_at-3.ensures ∙ asked_class bytes c.self.inside.answer one asked (two_at bytes 4) alone (sym seen ∙ is))),
    )

pub is_named-requires-clause-there : goal.is_named-requires-clause-there
is_named-requires-clause-there g c =
    (asked_one c.self.inside.bytes.now (two_at c.self.inside.bytes.now 4) c.self.inside.answer (sym c.two_at.ensures ∙ c.if-two_at-ne1.false) c.self.invariant.asks).named

pub returns : goal.returns
returns g c =
    let bytes = c.self.inside.bytes.now in
    let alone = sym c.two_at.ensures ∙ c.if-two_at-ne1.false in
    let one = asked_one bytes (two_at bytes 4) c.self.inside.answer alone c.self.invariant.asks in
    let asked : Question = record { name = c.args.name.now; qtype = c.args.qtype; qclass = c.args.qclass } in
    let labels = labels_in (name_at bytes message_faults (length bytes) 12) in
    let seen = sym (ap (λ (m : Message). m.questions) c.self.view_is) in (
      λ named. seen ∙ is_asked bytes c.self.inside.answer one asked (two_at bytes 4) alone (same_name-exact labels c.args.name.now (sym c.is_named.ensures ∙ named))
          (sym c.two_at-2.ensures ∙ c.if-two_at-qtype.false) (sym c.two_at-3.ensures ∙ c.if-two_at-qclass.false),
      λ is. c.is_named.ensures ∙ same_name-equal labels c.args.name.now (asked_name bytes c.self.inside.answer one asked (two_at bytes 4) alone (sym seen ∙ is)),
    )
