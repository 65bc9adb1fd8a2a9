use Rattle.std.proofs.Common.{◌∙◌, ◌≢◌, sym, ap, subst, []}
use Rattle.std.specs.Prelude.{IfSome}
use Rattle.rdata.specs.Rows.{in_set}
use Rattle.rdata.specs.Types.{type_number}
use Rattle.authority.specs.Climb.{target}
use Rattle.authority.proofs.Picks.{say_none, say_found}
use Rattle.authority.proofs.plain.say.Goals as goal

pub returns-in-Some : goal.returns-in-Some
returns-in-Some g c =
    say_found c.args.soa.now c.args.owner.now (type_number c.args.kind) (target c.args.whose c.args.name.now) c.args.records.now c.in-Some.set (sym (ap in_set c.in-Some.is) ∙ c.in_ok-set.ensures.value)
    (subst (λ o. IfSome o (λ rs. rs ≢ [])) c.in-Some.is c.in_ok-set.ensures.some)

pub returns-in_ok-alias_or_none-in-None : goal.returns-in_ok-alias_or_none-in-None
returns-in_ok-alias_or_none-in-None g c =
    c.in_ok-alias_or_none-in-None.ensures
    ∙ sym (say_none c.args.soa.now c.args.owner.now (type_number c.args.kind) (target c.args.whose c.args.name.now) c.args.records.now (sym (sym (ap in_set c.in-None.is) ∙ c.in_ok-set.ensures.value)))
