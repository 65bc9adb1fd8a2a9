use Rattle.std.proofs.Common.{◌∙◌, sym, ap}
use Rattle.rdata.specs.Data.{type_of}
use Rattle.rdata.specs.Records.{Record}
use Rattle.rdata.specs.Types.{type_number}
use Rattle.zone.proofs.Shares.{set_has_data}
use Rattle.zone.proofs.held.Held.values.Goals as goal

pub new-requires : goal.new-requires
new-requires g c =
    set_has_data c.args.self.now c.args.index (type_number c.kind-kind.result) c.get.result.now c.in_ok-items-in-None.items.items c.requires c.get.ensures
    (c.kind-kind.ensures ∙ ap (λ (r : Record). type_of r.value) c.behind-self.view_is) c.in_ok-items-in-None.ensures
