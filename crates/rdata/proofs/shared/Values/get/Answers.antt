use Rattle.std.proofs.Common.{◌≡◌, map, sym, ◌∙◌, ap}
use Rattle.rdata.specs.Kept.{datum}
use Rattle.rdata.specs.Shared.{values_of}
use Rattle.rdata.specs.declared.shared.Place.{Place}
use Rattle.rdata.proofs.Places.{only_one, within, one_of}
use Rattle.rdata.proofs.shared.Values.get.Given.{Over}
use Rattle.rdata.proofs.shared.Values.get.Goals as goal

shared : (g : Over) (c : goal.After-as_slice g) → map datum c.as_slice.result.now ≡ c.args.self.now
shared g c = c.as_slice.ensures.is ∙ (sym (ap (λ (p : Place g.row.A.Denot). values_of p) c.in-Shared.is) ∙ c.self.view_is)

pub returns-in-Alone : goal.returns-in-Alone
returns-in-Alone g c =
    only_one c.args.self.now (datum c.in-Alone.value) c.args.index (sym c.self.view_is ∙ ap (λ (p : Place g.row.A.Denot). values_of p) c.in-Alone.is) c.requires

pub bounds-as_slice-index : goal.bounds-as_slice-index
bounds-as_slice-index g c = within datum c.as_slice.result.now c.args.self.now c.args.index (shared g c) c.requires

pub returns-in-Shared : goal.returns-in-Shared
returns-in-Shared g c =
    one_of datum c.as_slice.result.now c.args.self.now c.args.index c.index-as_slice-index.result
    (c.as_slice.ensures.is ∙ (sym (ap (λ (p : Place g.row.A.Denot). values_of p) c.in-Shared.is) ∙ c.self.view_is)) c.requires c.index-as_slice-index.is
