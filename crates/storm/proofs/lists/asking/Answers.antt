use Rattle.std.proofs.Common.{refl, ap, subst, ◌∙◌, ℕ, List}
use Rattle.rdata.specs.Types.{type_number}
use Rattle.message_grammar.specs.Messages.{encoding}
use Rattle.score.specs.Clients.{query_for, IsHeard}
use Rattle.storm.proofs.lists.asking.Goals as goal

pub returns : goal.returns
returns c = record {
  moment = refl;
  client = c.in_ok-client.ensures.number;
  way = refl;
  bytes = c.in_ok-bytes.ensures ∙ ap (λ (n : ℕ). encoding (query_for n c.args.name (type_number c.args.kind) c.args.recursive)) c.in-Some.ensures;
  heard = subst (λ (sent : List ℕ). IsHeard sent c.args.clients.now c.push.new.self) c.as_slice.ensures.is c.in_ok-client.ensures.heard;
}
