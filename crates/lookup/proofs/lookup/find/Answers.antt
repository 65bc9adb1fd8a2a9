use Rattle.std.proofs.Common.{inl, inr, ap, refl}
use Rattle.dname.specs.Labels.{root}
use Rattle.rdata.specs.Types.{type_number}
use Rattle.zone.specs.Look.{Cut, NotHere}
use Rattle.authority.specs.Answers.{local_view}
use Rattle.resolution.specs.Rules.{Says}
use Rattle.lookup.proofs.Kept.{says_is, asked_at_cut, asked_nowhere, found_is, beyond_is}
use Rattle.lookup.proofs.Uses.{kept_part, asked_part, on_err}
use Rattle.lookup.proofs.lookup.find.Goals as goal

pub returns-in_ok-found_under-in-Ok-clause-found : goal.returns-in_ok-found_under-in-Ok-clause-found
returns-in_ok-found_under-in-Ok-clause-found g c =
    let cut = Cut c.in-Cut.at c.in-Cut.servers c.in-Cut.glue in
    let says : Says c.args.home.now c.args.name.now (type_number c.args.kind) cut =
    says_is c.args.home.now c.catalog.result.now c.args.name.now (type_number c.args.kind) (local_view c.in_ok-link.field-0) cut
    c.catalog.ensures c.in_ok-link.ensures.value c.in_ok-link.ensures.relation (ap local_view c.in-Cut.is) in
    found_is c.args.home.now c.args.now c.args.name.now (type_number c.args.kind) c.args.stores.now c.in-Cut.at cut c.in-Ok.kept c.in_ok-found_under-in-Ok.field-0 c.find_kept-kept.new.stores
    (asked_at_cut c.args.home.now c.args.name.now (type_number c.args.kind) c.in-Cut.at c.in-Cut.servers c.in-Cut.glue says) says (inl (c.in-Cut.at, c.in-Cut.servers, c.in-Cut.glue, says)) c.in-Ok.ensures.kept (c.in_ok-found_under-in-Ok.ensures c.args.home.now c.args.name.now)

pub returns-in_ok-find_beyond-in-NotHere-clause-found : goal.returns-in_ok-find_beyond-in-NotHere-clause-found
returns-in_ok-find_beyond-in-NotHere-clause-found g c =
    let says : Says c.args.home.now c.args.name.now (type_number c.args.kind) NotHere =
    says_is c.args.home.now c.catalog.result.now c.args.name.now (type_number c.args.kind) (local_view c.in_ok-link.field-0) NotHere
    c.catalog.ensures c.in_ok-link.ensures.value c.in_ok-link.ensures.relation (ap local_view c.in-NotHere.is) in
    beyond_is c.args.home.now c.args.now c.args.name.now (type_number c.args.kind) c.args.stores.now c.in_ok-find_beyond-in-NotHere.field-0 c.find_beyond.new.stores says (inr says) c.in_ok-find_beyond-in-NotHere.ensures.beyond

pub returns-in-Err-clause-part : goal.returns-in-Err-clause-part
returns-in-Err-clause-part g c =
    let cut = Cut c.in-Cut.at c.in-Cut.servers c.in-Cut.glue in
    let says : Says c.args.home.now c.args.name.now (type_number c.args.kind) cut =
    says_is c.args.home.now c.catalog.result.now c.args.name.now (type_number c.args.kind) (local_view c.in_ok-link.field-0) cut
    c.catalog.ensures c.in_ok-link.ensures.value c.in_ok-link.ensures.relation (ap local_view c.in-Cut.is) in
    asked_part c.args.home.now c.args.now c.args.name.now (type_number c.args.kind) _ c.args.stores.now c.find_kept-kept.new.stores
    (asked_at_cut c.args.home.now c.args.name.now (type_number c.args.kind) c.in-Cut.at c.in-Cut.servers c.in-Cut.glue says) (inl (c.in-Cut.at, c.in-Cut.servers, c.in-Cut.glue, says)) c.in-Err.ensures.part

pub returns-in_err-found_under-in-Ok-clause-part : goal.returns-in_err-found_under-in-Ok-clause-part
returns-in_err-found_under-in-Ok-clause-part g c =
    let cut = Cut c.in-Cut.at c.in-Cut.servers c.in-Cut.glue in
    let says : Says c.args.home.now c.args.name.now (type_number c.args.kind) cut =
    says_is c.args.home.now c.catalog.result.now c.args.name.now (type_number c.args.kind) (local_view c.in_ok-link.field-0) cut
    c.catalog.ensures c.in_ok-link.ensures.value c.in_ok-link.ensures.relation (ap local_view c.in-Cut.is) in
    on_err c.from_residual-in_err-found_under-in-Ok.result (asked_part c.args.home.now c.args.now c.args.name.now (type_number c.args.kind) _ c.args.stores.now c.find_kept-kept.new.stores
    (asked_at_cut c.args.home.now c.args.name.now (type_number c.args.kind) c.in-Cut.at c.in-Cut.servers c.in-Cut.glue says) (inl (c.in-Cut.at, c.in-Cut.servers, c.in-Cut.glue, says))
    (kept_part c.in-Cut.at c.args.now c.args.name.now (type_number c.args.kind) c.args.stores.now c.in-Ok.kept c.find_kept-kept.new.stores c.in-Ok.ensures.kept))

pub returns-in_err-find_beyond-in-NotHere-clause-part : goal.returns-in_err-find_beyond-in-NotHere-clause-part
returns-in_err-find_beyond-in-NotHere-clause-part g c =
    let says : Says c.args.home.now c.args.name.now (type_number c.args.kind) NotHere =
    says_is c.args.home.now c.catalog.result.now c.args.name.now (type_number c.args.kind) (local_view c.in_ok-link.field-0) NotHere
    c.catalog.ensures c.in_ok-link.ensures.value c.in_ok-link.ensures.relation (ap local_view c.in-NotHere.is) in
    on_err c.from_residual-in_err-find_beyond-in-NotHere.result (asked_part c.args.home.now c.args.now c.args.name.now (type_number c.args.kind) _ c.args.stores.now c.find_beyond.new.stores
    (asked_nowhere c.args.home.now c.args.name.now (type_number c.args.kind) root refl says) (inr says) c.in_err-find_beyond-in-NotHere.ensures.part)
