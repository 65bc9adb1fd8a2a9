use Rattle.std.proofs.Common.{◌<◌, subst, arith}
use Rattle.dname.specs.Labels.{IsName}
use Rattle.rdata.specs.Types.{type_number}
use Rattle.runs.specs.States.{Ask}
use Rattle.events.proofs.Short.{ask_read_back}
use Rattle.events.proofs.say.ask_is_message.Goals as goal

pub returns : goal.returns
returns g c =
    let a = c.args.ask.now in
    let id : a.id < 65536 = subst (λ (b : Ask). b.id < 65536) c.ask.view_is c.id_law.ensures in
    let kind : type_number c.ask.inside.kind < 65536 = omega (arith, c.number.ensures, c.number.type_inv) in
    ask_read_back a (subst (λ (b : Ask). IsName b.name) c.ask.view_is c.well_formed_law.ensures) id (subst (λ (b : Ask). b.kind < 65536) c.ask.view_is kind) c.short_law.ensures
