use Rattle.std.proofs.Common.{◌≡◌, true, IfOk, subst}
use Rattle.classify.specs.Classes.{leads_down, servers_of}
use Rattle.classify.specs.Views.{class_view}
use Rattle.classify.proofs.Sets.{cut_there}
use Rattle.classify.proofs.table.by_cut.Goals as goal

pub returns-in-Ok : goal.returns-in-Ok
returns-in-Ok g c =
    let leads : leads_down c.args.zone.now c.args.name.now c.args.cut ≡ true = search (c.if-not-leads_down.ensures) in
    let servers : c.in-Ok.servers ≡ servers_of c.args.cut c.args.message.now = search (c.in-Ok.ensures, c.authority.ensures) in
    subst (λ k. IfOk c.refer.result (λ r. class_view r ≡ k)) (cut_there c.args.zone.now c.args.name.now c.args.message.now c.args.cut c.in-Ok.servers leads servers) c.refer.ensures
