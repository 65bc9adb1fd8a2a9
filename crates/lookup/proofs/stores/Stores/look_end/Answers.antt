use Rattle.std.proofs.Common.{refl}
use Rattle.std.proofs.lemmas.Result.{IfOk-weaker}
use Rattle.rdata.specs.Types.{type_number}
use Rattle.lookup.proofs.FoundEnds.{uses_end}
use Rattle.lookup.proofs.stores.Stores.look_end.Goals as goal

pub returns-clause-ok : goal.returns-clause-ok
returns-clause-ok g c =
    IfOk-weaker c.look_end.result _ _
    (λ o used. uses_end c.args.now c.args.name.now (type_number c.args.kind) c.args.self.now _ c.self.inside.cache c.look_end.new.self c.self.view_is refl refl o used) c.look_end.ensures.ok
