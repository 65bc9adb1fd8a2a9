use Rattle.std.proofs.Common.{refl, sym, ◌∙◌, rules}
use Rattle.admission.proofs.Lists.{taken_there, not_there, none_goes}
use Rattle.server.proofs.crowd.take.Goals as goal

pub returns-in-Some : goal.returns-in-Some
returns-in-Some c test is =
    taken_there test c.args.asks.now.items c.remove.new.self.items c.in-Some.place c.remove.result (sym is ∙ c.in-Some.is) (λ d l. c.remove.ensures.succeeds d (search rules)) c.remove.ensures.items

pub returns-in-None : goal.returns-in-None
returns-in-None c test is =
    let e = not_there test c.args.asks.now.items (sym is ∙ c.in-None.is) in (sym e, sym (none_goes test c.args.asks.now.items e))
