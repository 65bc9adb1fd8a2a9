use Rattle.std.proofs.Common.{length, sym, ◌∙◌, ap, arith}
use Rattle.rdata.specs.Kept.{datum}
use Rattle.rdata.specs.Shared.{values_of}
use Rattle.rdata.specs.declared.shared.Place.{Place}
use Rattle.rdata.proofs.Places.{as_many}
use Rattle.rdata.proofs.shared.Values.len.Goals as goal

pub returns-in-Alone : goal.returns-in-Alone
returns-in-Alone g c =
    let one = ap length (sym c.self.view_is ∙ ap (λ (p : Place g.row.A.Denot). values_of p) c.in-Alone.is) in
    record { len = sym one; some = omega arith }

pub returns-in-Shared : goal.returns-in-Shared
returns-in-Shared g c =
    let many =
    as_many datum c.as_slice.result.now c.args.self.now (c.as_slice.ensures.is ∙ (sym (ap (λ (p : Place g.row.A.Denot). values_of p) c.in-Shared.is) ∙ c.self.view_is)) in
    record { len = many; some = omega (arith, c.as_slice.ensures.some, many) }
