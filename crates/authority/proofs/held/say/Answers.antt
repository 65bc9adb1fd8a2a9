use Rattle.std.proofs.Common.{◌∙◌, ◌≢◌, sym, ap, subst, refl, []}
use Rattle.std.specs.Prelude.{IfSome}
use Rattle.rdata.specs.Rows.{in_set}
use Rattle.rdata.specs.Types.{type_number}
use Rattle.authority.proofs.Walks.{says_none, says_found}
use Rattle.authority.proofs.held.say.Goals as goal

pub returns-in-Some : goal.returns-in-Some
returns-in-Some g c = says_found c.args.soa.now c.args.owner.now (type_number c.args.kind) c.args.held.now c.in-Some.set (sym (ap in_set c.in-Some.is) ∙ c.in_ok-set.ensures.value)
    (subst (λ o. IfSome o (λ rs. rs ≢ [])) c.in-Some.is c.in_ok-set.ensures.some)

pub returns-in_ok-alias_or_none-in-None : goal.returns-in_ok-alias_or_none-in-None
returns-in_ok-alias_or_none-in-None g c =
    c.in_ok-alias_or_none-in-None.ensures ∙ says_none c.args.soa.now c.args.owner.now (type_number c.args.kind) c.args.held.now [] (sym (ap in_set c.in-None.is) ∙ c.in_ok-set.ensures.value) refl
