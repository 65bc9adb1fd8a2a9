use Rattle.std.proofs.Common.{subst}
use Rattle.std.proofs.lemmas.Result.{IfOk-weaker}
use Rattle.std.specs.Prelude.{option_map}
use Rattle.front.specs.declared.queries.Request.TheVariants as asked
use Rattle.front.specs.Queries.{IsRequest}
use Rattle.worlds.specs.Hosting.{IsReplyFrom}
use Rattle.worlds.proofs.Hosted.{sent_is_honest}
use Rattle.worlds.proofs.hosting.host_reply.Goals as goal

pub returns-in-Query-clause-is : goal.returns-in-Query-clause-is
returns-in-Query-clause-is g c =
    IfOk-weaker c.reply_to-given.result _ _
    (λ r k. (
      _,
      subst (IsRequest c.args.bytes.now) c.in-Query.is c.in_ok-query.ensures.asked,
      subst (λ q. IsReplyFrom c.args.world.now c.args.address.0 (asked.Query q) (option_map (λ v. v.items) r)) c.deref.ensures k,
    )) c.reply_to-given.ensures

pub returns-in-Query-clause-honest : goal.returns-in-Query-clause-honest
returns-in-Query-clause-honest g c =
    IfOk-weaker c.reply_to-given.result _ _
    (λ r k. sent_is_honest c.args.world.now c.args.address.0 c.args.bytes.now (λ v. v.items) r c.in-Query.query c.reading_is_one.ensures c.echo_is_question.ensures c.well_formed_law.ensures
    (subst (IsRequest c.args.bytes.now) c.in-Query.is c.in_ok-query.ensures.asked)
    (subst (λ q. IsReplyFrom c.args.world.now c.args.address.0 (asked.Query q) (option_map (λ v. v.items) r)) c.deref.ensures k)) c.reply_to-given.ensures
