use Rattle.std.proofs.Common.{◌∙◌}
use Rattle.std.specs.List.{list_any}
use Rattle.rdata.specs.Records.{Record}
use Rattle.zone.specs.Last.{is_beside}
use Rattle.zone.proofs.Last.{last_clash_is}
use Rattle.zone.proofs.aliases.has_cname_clash.Goals as goal

pub returns : goal.returns
returns g c =
    c.some_is_beside.ensures ∙ ((λ i. list_any (λ (r : Record). is_beside r.value (c.in_ok-targets.ensures r.owner i)) c.args.records.now) ∙ last_clash_is c.args.records.now)
