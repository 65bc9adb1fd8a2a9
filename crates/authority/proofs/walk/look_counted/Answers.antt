use Rattle.std.proofs.Common.{◌∙◌, sym, arith}
use Rattle.rdata.specs.Types.{type_number}
use Rattle.zone.specs.Views.{link_view}
use Rattle.authority.proofs.Picks.{look_link}
use Rattle.authority.proofs.AtOrigin.{nodes_within}
use Rattle.authority.proofs.Walks.{walk_told, labels_within}
use Rattle.authority.proofs.walk.look_counted.Goals as goal

pub overflow_add-result : goal.overflow_add-result
overflow_add-result g c = omega (arith, c.in_ok-cut.ensures.count, nodes_within c.args.zone.now c.args.name.now, labels_within c.args.name.now, c.well_formed_law.ensures.short)

pub returns-in_ok-link-in-None-clause-value : goal.returns-in_ok-link-in-None-clause-value
returns-in_ok-link-in-None-clause-value g c =
    let z = c.args.zone.now in
    let t = type_number c.args.kind in
    let walk = c.in_ok-cut.field-0 in
    let free = sym c.in-None.is ∙ c.in_ok-cut.ensures.cut in
    look_link c.args.soa.now z c.args.name.now t (link_view c.in_ok-link-in-None.field-0) free
    (c.in_ok-link-in-None.ensures ∙ walk_told z c.args.soa.now c.args.name.now t walk.here walk.near free c.in_ok-cut.ensures.here (λ none. c.in_ok-cut.ensures.near none c.args.soa.now t))

pub returns-in_ok-refer-in-Some-clause-count : goal.returns-in_ok-refer-in-Some-clause-count
returns-in_ok-refer-in-Some-clause-count g c = omega (arith, c.in_ok-cut.ensures.count, nodes_within c.args.zone.now c.args.name.now)

pub returns-in_ok-link-in-None-clause-count : goal.returns-in_ok-link-in-None-clause-count
returns-in_ok-link-in-None-clause-count g c = omega (arith, c.in_ok-cut.ensures.count, nodes_within c.args.zone.now c.args.name.now)
