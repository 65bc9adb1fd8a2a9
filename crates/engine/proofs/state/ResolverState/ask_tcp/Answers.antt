use Rattle.std.proofs.Common.{◌+◌, refl, ap}
use Rattle.rdata.specs.Types.{type_number}
use Rattle.runs.specs.States.{State, ByTcp, low_half}
use Rattle.typed.specs.Views.{said_view}
use Rattle.engine.specs.ResolverStates.{state_of}
use Rattle.engine.proofs.Asks.{still_none, over_fresh, waits_by_tcp}
use Rattle.engine.proofs.state.ResolverState.ask_tcp.Goals as goal

pub put-requires-clause-fresh : goal.put-requires-clause-fresh
put-requires-clause-fresh g c = still_none (state_of c.args.self.now) (state_of c.word.new.self) c.word.ensures.state c.args.number c.requires.fresh

pub put-requires-clause-free : goal.put-requires-clause-free
put-requires-clause-free g c =
    over_fresh (state_of c.args.self.now) (state_of c.word.new.self) c.word.ensures.state c.requires.sound

pub returns-clause-ok : goal.returns-clause-ok
returns-clause-ok g c =
    let drew = c.word.ensures.state in
    waits_by_tcp (state_of c.args.self.now) (state_of c.word.new.self) drew (state_of c.put.new.self) c.args.client_query c.args.number c.args.job _ _ (said_view c.in_ok-action.action) c.in_ok-action.ensures.ok
    c.args.server c.args.name (type_number c.args.kind)
    record { server = refl; name = refl; kind = refl } (ap (λ (z : State). ByTcp z.tcp_asks) drew) (ap low_half c.word.ensures.is) (ap (λ (z : State). z.clock + 3000) drew)
