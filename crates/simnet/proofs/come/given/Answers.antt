use Rattle.std.proofs.Common.{subst, ℕ, List, option_map}
use Rattle.runs.specs.States.{Plain}
use Rattle.network.specs.Networks.{Sent}
use Rattle.worlds.specs.Hosting.{IsHostReply}
use Rattle.simnet.proofs.Given.{host_plainly, asks_one, is_short}
use Rattle.simnet.proofs.come.given.Goals as goal

pub returns-clause-is : goal.returns-clause-is
returns-clause-is g c =
    let reply = option_map (λ v. v.items) c.in_ok-host_reply.field-0 in
    subst (λ (x : Sent). IsHostReply Plain c.args.world.now x.to.address.0 x.bytes reply) c.sent.view_is
    (subst (λ (bytes : List ℕ). IsHostReply Plain c.args.world.now c.sent.inside.to.address.0 bytes reply) c.as_slice.ensures.is
    (host_plainly _ c.args.world.now c.sent.inside.to.address.0 c.as_slice.result.now reply c.in_ok-host_reply.ensures.is))

pub returns-clause-asks : goal.returns-clause-asks
returns-clause-asks g c =
    asks_one _ c.args.world.now c.sent.inside.to.address.0 c.as_slice.result.now (λ v. v.items) c.in_ok-host_reply.field-0 c.echo_is_question.ensures c.well_formed_law.ensures c.in_ok-host_reply.ensures.is

pub returns-clause-short : goal.returns-clause-short
returns-clause-short g c =
    is_short _ c.args.world.now c.sent.inside.to.address.0 c.as_slice.result.now (λ v. v.items) c.in_ok-host_reply.field-0 c.in_ok-host_reply.ensures.is
