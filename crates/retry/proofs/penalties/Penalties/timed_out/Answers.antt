use Rattle.std.proofs.Common.{rules, ◌≡◌}
use Rattle.retry.specs.Penalties.{raised}
use Rattle.retry.proofs.Steps.{put_seen, never_refused, timed_out_is, timed_out_only, timed_out_gone, timed_out_most}
use Rattle.retry.proofs.penalties.Penalties.timed_out.Goals as goal

pub returns-in_err-put-clause-known : goal.returns-in_err-put-clause-known
returns-in_err-put-clause-known g c = λ some. absurd (never_refused c.self.inside.levels c.args.self.now c.args.addr c.self.view_is c.in_err-put.ensures.succeeds some)

pub invariant_of-self-2 : goal.invariant_of-self-2
invariant_of-self-2 g c =
    let level : c.min-level.result ≡ raised c.args.addr c.self.inside.levels.entries = search rules in
    timed_out_most c.self.inside.levels c.put.new.self c.args.addr c.min-level.result c.in_ok-put.ensures.entries level c.self.invariant

pub returns-clause-ok : goal.returns-clause-ok
returns-clause-ok g c =
    let level : c.min-level.result ≡ raised c.args.addr c.args.self.now.entries = search rules in
    timed_out_is c.args.self.now c.put.new.self c.args.addr c.min-level.result (put_seen c.self.inside.levels c.args.self.now c.put.new.self c.args.addr c.min-level.result c.self.view_is c.in_ok-put.ensures.entries) level

pub returns-clause-only : goal.returns-clause-only
returns-clause-only g c =
    let level : c.min-level.result ≡ raised c.args.addr c.args.self.now.entries = search rules in
    timed_out_only c.args.self.now c.put.new.self c.args.addr c.min-level.result (put_seen c.self.inside.levels c.args.self.now c.put.new.self c.args.addr c.min-level.result c.self.view_is c.in_ok-put.ensures.entries) level

pub returns-clause-gone : goal.returns-clause-gone
returns-clause-gone g c =
    let level : c.min-level.result ≡ raised c.args.addr c.args.self.now.entries = search rules in
    timed_out_gone c.args.self.now c.put.new.self c.args.addr c.min-level.result (put_seen c.self.inside.levels c.args.self.now c.put.new.self c.args.addr c.min-level.result c.self.view_is c.in_ok-put.ensures.entries) level
