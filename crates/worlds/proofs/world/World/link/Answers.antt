use Rattle.std.proofs.Common.{inl, inr, subst}
use Rattle.rdata.specs.Types.{type_number}
use Rattle.zone.specs.Views.{link_view}
use Rattle.authority.specs.Answers.{local_view}
use Rattle.authority.specs.Catalogs.{IsLooked}
use Rattle.world_truth.specs.Worlds.{World}
use Rattle.worlds.proofs.Judged.{looked_true, no_cut, not_nowhere}
use Rattle.worlds.proofs.world.World.link.Goals as goal

pub unreachable-requires : goal.unreachable-requires
unreachable-requires g c =
    let looked = subst (λ (W : World). IsLooked W.zones c.args.name.now (type_number c.args.kind) (local_view c.in_ok-link.field-0)) c.self.view_is c.in_ok-link.ensures.relation in
    elim c.in-Cut.is [
      | inl (cut, servers, addresses, e) ↦ no_cut c.args.self.now c.args.name.now (type_number c.args.kind) cut servers addresses c.well_formed_law.ensures
          (subst (λ l. IsLooked c.args.self.now.zones c.args.name.now (type_number c.args.kind) (local_view l)) e looked)
      | inr e ↦ not_nowhere c.args.self.now c.args.name.now (type_number c.args.kind) c.well_formed_law.ensures c.well_formed_law-2.ensures
          (subst (λ l. IsLooked c.args.self.now.zones c.args.name.now (type_number c.args.kind) (local_view l)) e looked)
    ]

pub returns : goal.returns
returns g c =
    let looked = subst (λ (W : World). IsLooked W.zones c.args.name.now (type_number c.args.kind) (local_view c.in_ok-link.field-0)) c.self.view_is c.in_ok-link.ensures.relation in
    looked_true c.args.self.now c.args.name.now (type_number c.args.kind) (link_view c.in-Link.link)
    (subst (λ l. IsLooked c.args.self.now.zones c.args.name.now (type_number c.args.kind) (local_view l)) c.in-Link.is looked)
