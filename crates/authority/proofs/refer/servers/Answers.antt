use Rattle.std.proofs.Common.{◌∙◌, sym, ap, []}
use Rattle.authority.specs.Walk.{own_of}
use Rattle.authority.proofs.SetRows.{timed_at}
use Rattle.authority.proofs.Walks.{stands, servers_are}
use Rattle.authority.proofs.refer.servers.Goals as goal

pub set_of-requires : goal.set_of-requires
set_of-requires g c = timed_at c.args.cut.now c.args.zone.now c.in-Some.stand.own c.zone_keeps_rules.ensures.rules.ttls c.in-Some.ensures.own

pub returns-in_ok-records_in-in-Some : goal.returns-in_ok-records_in-in-Some
returns-in_ok-records_in-in-Some g c =
    servers_are c.args.zone.now c.args.cut.now c.in-Some.stand.own c.in_ok-records_in-in-Some.field-0 c.in-Some.ensures.own (c.in_ok-records_in-in-Some.ensures ∙ c.in_ok-set-in-Some.ensures.value)

pub returns-in-None : goal.returns-in-None
returns-in-None g c = servers_are c.args.zone.now c.args.cut.now [] c.new.result (sym (ap own_of c.in-None.is) ∙ (stands c.args.cut.now c.args.zone.now.records c.stand.result c.stand.ensures).own) c.new.ensures
