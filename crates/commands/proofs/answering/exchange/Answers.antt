-- The lines are those of what the query's bytes ask.
use Rattle.std.proofs.Common.{rules}
use Rattle.std.proofs.lemmas.Result.{IfOk-weaker}
use Rattle.rdata.specs.Types.{type_number}
use Rattle.message_grammar.specs.Messages.{encoding}
use Rattle.front.specs.Queries.{IsRequest}
use Rattle.commands.specs.Exchanges.{query_for}
use Rattle.commands.proofs.answering.exchange.Goals as goal

pub returns : goal.returns
returns g c =
    let asked : IsRequest (encoding (query_for c.args.name (type_number c.args.kind))) c.in_ok-asked.asked = search rules in
    IfOk-weaker c.lines_of.result _ _ (λ s h. (c.in_ok-asked.asked, asked, h)) c.lines_of.ensures
