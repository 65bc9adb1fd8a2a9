use Rattle.std.proofs.Common.{List, sym, subst}
use Rattle.rdata.specs.Records.{Record}
use Rattle.authority.specs.Values.{HaveOneTtl}
use Rattle.unit_tests.proofs.authority_tests.plain_tests.by_list.Goals as goal

pub look_in-requires : goal.look_in-requires
look_in-requires g c = subst (λ (rs : List Record). HaveOneTtl rs) (sym c.records-records.ensures) c.zone_keeps_rules.ensures.rules.ttls
