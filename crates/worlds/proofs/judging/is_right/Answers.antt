use Rattle.std.proofs.Common.{rules, sym, ◌∙◌, ap, subst, ◌≡◌, ℕ, Bool, not, List}
use Rattle.dname.specs.Labels.{Name}
use Rattle.rdata.specs.Records.{Record}
use Rattle.rdata.specs.Types.{type_number}
use Rattle.message_grammar.specs.Messages.{Message}
use Rattle.world_truth.specs.Worlds.{World}
use Rattle.worlds.specs.Judging.{IsRest, is_none}
use Rattle.worlds.proofs.Replied.{Clause, truncated_reply, whole_reply}
use Rattle.worlds.proofs.judging.is_right.Goals as goal

pub returns-then-reply : goal.returns-then-reply
returns-then-reply g c =
    truncated_reply c.args.world.now c.args.name.now (type_number c.args.kind) c.args.reply.now c.is_empty.result (sym c.is_reply_to.ensures ∙ c.if-not-is_reply_to.false)
    (ap (λ (m : Message). m.header.tc) (sym c.reply.view_is) ∙ (ap (λ m. m.header.tc) (sym c.reply-inside.view_is) ∙ c.if-reply.true)) c.is_empty.ensures

same_rest : (b : Bool) (W : World) (t : ℕ) (q : Name) (left : ℕ) (answer there : List Record) (rcode : ℕ) (authority beside : List Record) → answer ≡ there → authority ≡ beside
    → Clause b (IsRest W t q left answer rcode authority) → Clause b (IsRest W t q left there rcode beside)
same_rest b W t q left answer there rcode authority beside a u h =
    subst (λ (rs : List Record). Clause b (IsRest W t q left rs rcode beside)) a (subst (λ (rs : List Record). Clause b (IsRest W t q left answer rcode rs)) u h)

pub returns : goal.returns
returns g c =
    whole_reply c.args.world.now c.args.name.now (type_number c.args.kind) c.args.reply.now c.in_ok-is_rest.field-0 (sym c.is_reply_to.ensures ∙ c.if-not-is_reply_to.false)
    (ap (λ (m : Message). m.header.tc) (sym c.reply.view_is) ∙ (ap (λ m. m.header.tc) (sym c.reply-inside.view_is) ∙ c.if-reply.false))
    (ap (λ (m : Message). not (is_none m.additional)) (sym c.reply.view_is)
    ∙ (ap (λ m. not (is_none m.additional)) (sym c.reply-inside.view_is) ∙ ap (λ (rs : List Record). not (is_none rs)) (c.is_empty-2.ensures.0 (search rules))))
    (subst (λ (m : Message). Clause c.in_ok-is_rest.field-0 (IsRest c.args.world.now (type_number c.args.kind) c.args.name.now 8 m.answer m.header.rcode m.authority)) c.reply.view_is
    (subst (λ m. Clause c.in_ok-is_rest.field-0 (IsRest c.args.world.now (type_number c.args.kind) c.args.name.now 8 m.answer m.header.rcode m.authority)) c.reply-inside.view_is
    (same_rest c.in_ok-is_rest.field-0 c.args.world.now (type_number c.args.kind) c.args.name.now 8 _ _ _ _ _ c.as_slice-answer.ensures c.as_slice-authority.ensures c.in_ok-is_rest.ensures)))
