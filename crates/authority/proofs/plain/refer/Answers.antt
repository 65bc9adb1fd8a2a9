use Rattle.std.proofs.Common.{◌∙◌, ap}
use Rattle.zone.specs.Look.{glue_of}
use Rattle.authority.proofs.Picks.{refer_is}
use Rattle.authority.proofs.plain.refer.Goals as goal

pub returns : goal.returns
returns g c = λ origin. refer_is origin c.args.cut c.args.records.now c.in_ok-servers.servers c.in_ok-addresses.addresses (c.in_ok-servers.ensures ∙ c.in_ok-set.ensures.value)
    (c.in_ok-addresses.ensures ∙ ap (glue_of c.args.records.now) c.as_slice.ensures)
