use Rattle.std.proofs.Common.{◌∙◌, ap, arith}
use Rattle.std.proofs.lemmas.List.{take_all}
use Rattle.worlds.specs.Rules.{has_name, serves}
use Rattle.worlds.proofs.Origins.{served_more}
use Rattle.worlds.proofs.hosting.served_origins.Goals as goal

pub loop-host-preserved : goal.loop-host-preserved
loop-host-preserved g c = λ n.
    served_more c.args.address.0 n c.args.hosts.now c.loop-host.host-index c.host-item.result (has_name n c.loop-host.origins.items) (has_name n c.put_origins.new.origins.items) c.loop-host-test.true
    c.host-item.is (c.loop-host.invariant n) (c.in_ok-put_origins.ensures n)

pub returns : goal.returns
returns g c = λ n. c.loop-host.invariant n ∙ ap (serves c.args.address.0 n) (take_all c.loop-host.host-index c.args.hosts.now (omega arith))
