use Rattle.std.proofs.Common.{sym, ◌∙◌, subst}
use Rattle.std.proofs.lemmas.Result.{IfOk-weaker}
use Rattle.rdata.specs.Types.{type_number}
use Rattle.zone.specs.Views.{link_view}
use Rattle.world_truth.specs.Truths.{IsTrueLink}
use Rattle.worlds.proofs.Judged.{clause, never, lacks_first, lacks_room, not_same, no_target, goes_so, found_so, no_data_so, nx_domain_so}
use Rattle.worlds.proofs.judging.+judged.Goals as goal

pub goes_on-returns-in_default : goal.goes_on-returns-in_default
goes_on-returns-in_default g t c = λ q link. never
    (lacks_first c.args.world.now (type_number c.args.kind) q c.args.alias.now c.args.left c.args.answer.now c.args.rcode c.args.authority.now c.well_formed_law.ensures link c.in_default.len_below)

pub goes_on-returns-in_default-target : goal.goes_on-returns-in_default-target
goes_on-returns-in_default-target g t c = λ q link. never
    (no_target c.args.world.now (type_number c.args.kind) q c.args.alias.now c.args.left c.args.answer.now c.args.rcode c.args.authority.now c.first-item.result c.well_formed_law.ensures link
    c.in-len1-up.len_at_least c.first-item.is c.in_default-target.ensures)

pub goes_on-returns : goal.goes_on-returns
goes_on-returns g t c = λ q link.
    goes_so c.args.world.now (type_number c.args.kind) q c.args.alias.now c.args.left c.args.answer.now c.args.rcode c.args.authority.now c.first-item.result c.in-Some.next.now c.in_ok-is_rest.field-0
    c.well_formed_law.ensures link c.in-len1-up.len_at_least c.first-item.is (sym c.repeats.ensures ∙ c.if-not-repeats.false) c.in-Some.ensures c.if-left-eq0.false c.in_ok-is_rest.ensures

pub is_rest-returns-in-Alias : goal.is_rest-returns-in-Alias
is_rest-returns-in-Alias g t c =
    c.goes_on-right.ensures c.args.name.now (subst (λ l. IsTrueLink c.args.world.now c.args.name.now (type_number c.args.kind) (link_view l)) c.in-Alias.is c.in_ok-alias.ensures)

pub goes_on-returns-then-left-eq0 : goal.goes_on-returns-then-left-eq0
goes_on-returns-then-left-eq0 g t c = λ q link. never
    (lacks_room c.args.world.now (type_number c.args.kind) q c.args.alias.now c.args.left c.args.answer.now c.args.rcode c.args.authority.now c.well_formed_law.ensures link c.if-left-eq0.true)

pub goes_on-returns-then-not-repeats : goal.goes_on-returns-then-not-repeats
goes_on-returns-then-not-repeats g t c = λ q link. never
    (not_same c.args.world.now (type_number c.args.kind) q c.args.alias.now c.args.left c.args.answer.now c.args.rcode c.args.authority.now c.first-item.result c.well_formed_law.ensures link
    c.in-len1-up.len_at_least c.first-item.is (sym c.repeats.ensures ∙ c.if-not-repeats.true))

pub is_rest-returns-in-Found : goal.is_rest-returns-in-Found
is_rest-returns-in-Found g t c =
    let link = subst (λ l. IsTrueLink c.args.world.now c.args.name.now (type_number c.args.kind) (link_view l)) c.in-Found.is c.in_ok-alias.ensures in
    IfOk-weaker c.is_found-right.result _ _
    (λ b k. clause b k (found_so c.args.world.now (type_number c.args.kind) c.args.name.now c.args.left c.in-Found.set c.args.answer.now c.args.rcode c.args.authority.now c.well_formed_law.ensures link))
    c.is_found-right.ensures

pub is_rest-returns-in-NoData : goal.is_rest-returns-in-NoData
is_rest-returns-in-NoData g t c =
    let link = subst (λ l. IsTrueLink c.args.world.now c.args.name.now (type_number c.args.kind) (link_view l)) c.in-NoData.is c.in_ok-alias.ensures in
    clause c.is_denied.result c.is_denied.ensures
    (no_data_so c.args.world.now (type_number c.args.kind) c.args.name.now c.args.left c.in-NoData.soa c.args.answer.now c.args.rcode c.args.authority.now c.well_formed_law.ensures link)

pub is_rest-returns-in-NxDomain : goal.is_rest-returns-in-NxDomain
is_rest-returns-in-NxDomain g t c =
    let link = subst (λ l. IsTrueLink c.args.world.now c.args.name.now (type_number c.args.kind) (link_view l)) c.in-NxDomain.is c.in_ok-alias.ensures in
    clause c.is_denied-in-NxDomain.result c.is_denied-in-NxDomain.ensures
    (nx_domain_so c.args.world.now (type_number c.args.kind) c.args.name.now c.args.left c.in-NxDomain.soa c.args.answer.now c.args.rcode c.args.authority.now c.well_formed_law.ensures link)
