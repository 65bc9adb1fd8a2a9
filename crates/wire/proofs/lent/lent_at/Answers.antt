use Rattle.std.proofs.Common.{◌∙◌, sym, ap, arith}
use Rattle.message_grammar.specs.Messages.{served_type, ttl_of}
use Rattle.wire.proofs.Lending.{no_owner, fits, lent_none, lent_some, is_lent}
use Rattle.wire.proofs.lent.lent_at.Goals as goal

pub unreachable-requires : goal.unreachable-requires
unreachable-requires c = no_owner c.args.bytes.now c.args.at c.in_default.field-0 c.requires.there (sym c.in_default.is ∙ c.name_end.ensures.is)

pub two_at-requires : goal.two_at-requires
two_at-requires c = let inside = fits c.args.bytes.now c.args.at c.in-Ok.past c.requires.there c.in-Ok.ensures.is in omega arith

pub two_at-requires-2 : goal.two_at-requires-2
two_at-requires-2 c = let inside = fits c.args.bytes.now c.args.at c.in-Ok.past c.requires.there c.in-Ok.ensures.is in omega arith

pub two_at-requires-3 : goal.two_at-requires-3
two_at-requires-3 c = let inside = fits c.args.bytes.now c.args.at c.in-Ok.past c.requires.there c.in-Ok.ensures.is in omega arith

pub four_at-requires : goal.four_at-requires
four_at-requires c = let inside = fits c.args.bytes.now c.args.at c.in-Ok.past c.requires.there c.in-Ok.ensures.is in omega arith

pub invariant_of-lent : goal.invariant_of-lent
invariant_of-lent c =
    is_lent c.args.bytes.now c.args.at c.in-Ok.past c.requires.there c.in-Ok.ensures.is c.args.ends.now c.in-Some.kind c.from.result c.ttl_of-ttl.result c.requires.known
    (λ i. omega (arith, c.type_inv.bytes i)) (c.from.ensures ∙ c.two_at.ensures) c.ttl_of-ttl.ensures.within
    (sym c.in-Some.is ∙ (c.served_type.ensures ∙ (λ i. served_type (c.two_at-2.ensures i) (c.two_at-3.ensures i))))

pub returns-in-None : goal.returns-in-None
returns-in-None c =
    lent_none c.args.bytes.now c.args.at c.in-Ok.past c.requires.there c.in-Ok.ensures.is c.from.result (c.from.ensures ∙ c.two_at.ensures)
    (sym c.in-None.is ∙ (c.served_type.ensures ∙ (λ i. served_type (c.two_at-2.ensures i) (c.two_at-3.ensures i))))

pub returns-in-Some : goal.returns-in-Some
returns-in-Some c =
    lent_some c.args.bytes.now c.args.at c.in-Ok.past c.requires.there c.in-Ok.ensures.is c.in-Some.kind c.from.result c.ttl_of-ttl.result (c.from.ensures ∙ c.two_at.ensures)
    (c.ttl_of-ttl.ensures.is ∙ ap ttl_of c.four_at.ensures)
    (sym c.in-Some.is ∙ (c.served_type.ensures ∙ (λ i. served_type (c.two_at-2.ensures i) (c.two_at-3.ensures i))))
