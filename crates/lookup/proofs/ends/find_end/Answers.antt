use Rattle.std.proofs.Common.{◌≡◌, inl, inr, ap, refl, subst, List}
use Rattle.dname.specs.Labels.{root}
use Rattle.rdata.specs.Types.{type_number}
use Rattle.zone.specs.Zones.{Zone}
use Rattle.zone.specs.Look.{Cut, NotHere}
use Rattle.authority.specs.Answers.{local_view}
use Rattle.authority.specs.Catalogs.{looked, IsLooked}
use Rattle.resolution.specs.Rules.{Says}
use Rattle.lookup.proofs.Kept.{says_is, asked_at_cut, asked_nowhere}
use Rattle.lookup.proofs.FoundEnds.{ends_in}
use Rattle.lookup.proofs.ends.find_end.Goals as goal

pub returns-in-None : goal.returns-in-None
returns-in-None g c =
    let t = type_number c.args.kind in
    let says : Says c.args.home.now c.args.name.now t NotHere =
    subst (λ (zs : List Zone). (looked zs c.args.name.now t ≡ NotHere) × IsLooked zs c.args.name.now t NotHere) c.catalog.ensures c.in-None.ensures.none in
    ends_in c.args.home.now c.args.now c.args.name.now t c.args.stores.now root c.cached_end.new.stores
    (asked_nowhere c.args.home.now c.args.name.now t root refl says) (inr says) c.cached_end.result c.cached_end.ensures

pub returns-in-Some-Ok-Cut : goal.returns-in-Some-Ok-Cut
returns-in-Some-Ok-Cut g c =
    let t = type_number c.args.kind in
    let it = c.in-Some-Ok-Cut in
    let says : Says c.args.home.now c.args.name.now t (Cut it.at it.servers it.glue) =
    says_is c.args.home.now c.catalog.result.now c.args.name.now t (local_view it.field-0-0) (Cut it.at it.servers it.glue)
    c.catalog.ensures (rw it.field-0-is at it.ensures.value) (rw it.field-0-is at it.ensures.relation) (ap local_view it.field-0-0-is) in
    ends_in c.args.home.now c.args.now c.args.name.now t c.args.stores.now it.at c.cached_end-in-Some-Ok-Cut.new.stores
    (asked_at_cut c.args.home.now c.args.name.now t it.at it.servers it.glue says) (inl (it.at, it.servers, it.glue, says)) c.cached_end-in-Some-Ok-Cut.result c.cached_end-in-Some-Ok-Cut.ensures

pub returns-in-Some-Ok-NotHere : goal.returns-in-Some-Ok-NotHere
returns-in-Some-Ok-NotHere g c =
    let t = type_number c.args.kind in
    let it = c.in-Some-Ok-NotHere in
    let says : Says c.args.home.now c.args.name.now t NotHere =
    says_is c.args.home.now c.catalog.result.now c.args.name.now t (local_view it.field-0-0) NotHere
    c.catalog.ensures (rw it.field-0-is at it.ensures.value) (rw it.field-0-is at it.ensures.relation) (ap local_view it.field-0-0-is) in
    ends_in c.args.home.now c.args.now c.args.name.now t c.args.stores.now root c.cached_end-in-Some-Ok-NotHere.new.stores
    (asked_nowhere c.args.home.now c.args.name.now t root refl says) (inr says) c.cached_end-in-Some-Ok-NotHere.result c.cached_end-in-Some-Ok-NotHere.ensures
