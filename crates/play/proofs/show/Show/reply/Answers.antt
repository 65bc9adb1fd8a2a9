-- The client's query is recursive, so its reply is counted.
use Rattle.std.proofs.Common.{refl, sym, subst, Option, append-nil}
use Rattle.front.specs.declared.queries.Query.{Query}
use Rattle.events.specs.Plain.{plain}
use Rattle.runs.specs.States.{Plain}
use Rattle.world_truth.specs.Worlds.{World}
use Rattle.score.specs.Counts.{IsCounted, IsCountedFor}
use Rattle.play.proofs.show.Show.reply.Goals as goal

pub returns-in_ok-self-clause-is : goal.returns-in_ok-self-clause-is
returns-in_ok-self-clause-is g c =
    let s = c.args.self.now in
    record {
      network = refl;
      clients = refl;
      sends = sym (append-nil _);
      counts = subst (λ (o : Option (Query Plain)). IsCountedFor (s.network).world o c.args.bytes.now s.count c.in_ok-self.field-0) c.in-Some.ensures
          (subst (λ (W : World). IsCounted W (plain c.in-Some.query.now) c.args.bytes.now s.count c.in_ok-self.field-0) c.world.ensures
          (subst (λ q. IsCounted c.world.result.now (plain q) c.args.bytes.now s.count c.in_ok-self.field-0) c.deref.ensures c.in_ok-self.ensures));
      prints = c.in_ok-put_action.ensures.ok;
    }
