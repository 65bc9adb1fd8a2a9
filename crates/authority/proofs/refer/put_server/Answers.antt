use Rattle.std.proofs.Common.{◌∙◌, sym, ap, refl}
use Rattle.rdata.specs.Kept.{datum}
use Rattle.rdata.specs.Records.{Record}
use Rattle.authority.specs.Walk.{own_of}
use Rattle.authority.proofs.Walks.{stands, server_put}
use Rattle.authority.proofs.refer.put_server.Goals as goal

pub returns-in_ok-put_addresses : goal.returns-in_ok-put_addresses
returns-in_ok-put_addresses g c =
    server_put c.args.zone.now.records _ c.args.server.now.value c.args.set.now c.put_addresses.new.set c.in-Some.stand.own (ap datum (sym c.in-Ns.is) ∙ ap (λ (r : Record). r.value) c.server.view_is)
    (c.in-Some.ensures.own) c.in_ok-put_addresses.ensures

pub returns-in_default-stand : goal.returns-in_default-stand
returns-in_default-stand g c =
    server_put c.args.zone.now.records _ c.args.server.now.value c.args.set.now c.args.set.now _ (ap datum (sym c.in-Ns.is) ∙ ap (λ (r : Record). r.value) c.server.view_is)
    (sym (ap own_of c.in_default-stand.is) ∙ (stands _ c.args.zone.now.records c.stand.result c.stand.ensures).own) refl
