use Rattle.std.proofs.Common.{rules, ◌≡◌, ap}
use Rattle.rdata.specs.Types.{type_number}
use Rattle.cache.specs.Failures.{failed_ask}
use Rattle.cache.proofs.Failed.{put_is, put_only, put_gone}
use Rattle.cache.proofs.failures.Failures.failed.Goals as goal

pub returns-clause-ok : goal.returns-clause-ok
returns-clause-ok g c =
    let named : c.in_ok-clone.field-0 ≡ c.args.name.now = search rules in
    let t = type_number c.args.kind in
    put_is c.self.inside.entries c.args.self.now c.put.new.self (failed_ask c.in_ok-clone.field-0 t c.args.server) (failed_ask c.args.name.now t c.args.server) c.args.now
    c.self.view_is (ap (λ n. failed_ask n t c.args.server) named) c.in_ok-put.ensures.entries

pub returns-clause-only : goal.returns-clause-only
returns-clause-only g c = put_only c.args.self.now c.put.new.self (failed_ask c.args.name.now (type_number c.args.kind) c.args.server) c.args.now (returns-clause-ok g c)

pub returns-clause-gone : goal.returns-clause-gone
returns-clause-gone g c = put_gone c.args.self.now c.put.new.self (failed_ask c.args.name.now (type_number c.args.kind) c.args.server) c.args.now (returns-clause-ok g c)
