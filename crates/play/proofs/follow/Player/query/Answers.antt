-- The client has the next number.
use Rattle.std.proofs.Common.{◌∙◌, ap, subst, ℕ, List}
use Rattle.std.proofs.lemmas.Result.{on_ok_weaker}
use Rattle.rdata.specs.Types.{type_number}
use Rattle.message_grammar.specs.Messages.{encoding}
use Rattle.score.specs.Clients.{query_for}
use Rattle.play.specs.Plays.{SendsQuery}
use Rattle.play.specs.Seen.{state_of}
use Rattle.play.proofs.follow.Player.query.Goals as goal

pub returns : goal.returns
returns g c =
    on_ok_weaker c.ask.result
    (λ asks. subst (λ (sent : List ℕ). SendsQuery c.args.way sent (state_of c.args.self.now) (state_of c.ask.new.self))
    (c.in_ok-bytes.ensures ∙ ap (λ (n : ℕ). encoding (query_for n c.args.name (type_number c.args.kind) c.args.recursive)) c.in_ok-client.ensures) asks)
    c.ask.ensures
