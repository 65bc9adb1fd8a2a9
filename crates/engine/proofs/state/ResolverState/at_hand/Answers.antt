use Rattle.std.proofs.Common.{List, refl, subst, ap}
use Rattle.rdata.specs.Types.{type_number}
use Rattle.zone.specs.Zones.{Zone}
use Rattle.authority.specs.Catalogs.{looked}
use Rattle.front.specs.Chains.{AnswersLocally}
use Rattle.front.specs.declared.queries.Query.{Query}
use Rattle.runs.specs.States.{Plain, ClientQuery}
use Rattle.events.specs.Plain.{plain_outcome}
use Rattle.typed.specs.Views.{said_view}
use Rattle.engine.proofs.state.ResolverState.at_hand.Goals as goal

pub returns : goal.returns
returns g c = record {
  served_is = refl;
  result = plain_outcome c.in_ok-outcome.outcome;
  answers =
      subst (λ (q : Query Plain). AnswersLocally (λ n. looked c.args.self.now.home.zones n (type_number q.kind)) q.name (plain_outcome c.in_ok-outcome.outcome))
      (ap (λ (w : ClientQuery). w.query) c.client_query.view_is)
      (subst (λ (zones : List Zone). AnswersLocally (λ n. looked zones n (type_number c.client_query.inside.query.kind)) c.client_query.inside.query.name (plain_outcome c.in_ok-outcome.outcome)) c.catalog.ensures
      (c.local_answer_is_plain.ensures (λ n. looked c.catalog.result.now n (type_number c.client_query.inside.query.kind)) c.client_query.inside.query.name c.in_ok-outcome.outcome (rw c.deref.ensures at c.in_ok-outcome.ensures)));
  action = said_view c.reply_to.result;
  reply = c.reply_to.ensures;
  out_is = refl;
  state = refl;
}
