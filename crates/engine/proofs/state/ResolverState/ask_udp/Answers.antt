use Rattle.std.proofs.Common.{◌≡◌, subst, ◌∙◌, ◌+◌, ◌/◌, ◌%◌, ℕ, refl, ap}
use Rattle.std.proofs.lemmas.Result.{IfOk-weaker, on_err_weaker}
use Rattle.rdata.specs.Types.{type_number}
use Rattle.runs.specs.States.{State, low_half}
use Rattle.runs.specs.Steps.{IsRaised}
use Rattle.open_queries.specs.Lookups.{IsTakenId}
use Rattle.typed.specs.Views.{said_view}
use Rattle.engine.specs.ResolverStates.{state_of}
use Rattle.engine.proofs.Asks.{still_none, waits_by_udp, halts}
use Rattle.engine.proofs.state.ResolverState.ask_udp.Goals as goal

pub put-requires-clause-fresh : goal.put-requires-clause-fresh
put-requires-clause-fresh g c = still_none (state_of c.args.self.now) (state_of c.word-word.new.self) c.word-word.ensures.state c.args.number c.requires.fresh

pub put-requires-clause-free : goal.put-requires-clause-free
put-requires-clause-free g c = (c.free_id-id.ensures).free

pub returns-clause-ok : goal.returns-clause-ok
returns-clause-ok g c =
    let drew = c.word-word.ensures.state in
    let sockets : c.from.result ≡ c.args.self.now.sockets = c.from.ensures ∙ ap (λ (z : State). (z.site).sockets) drew in
    IfOk-weaker c.put.result _ _
    (λ a h. waits_by_udp (state_of c.args.self.now) (state_of c.word-word.new.self) drew (state_of c.put.new.self) c.args.client_query c.args.number c.args.job _ _ (said_view a) h
    c.args.server c.args.name (type_number c.args.kind) (c.word-word.result / 65536 % c.from.result)
    record { server = refl; name = refl; kind = refl } c.requires.fresh
    (λ i. c.word-word.ensures.is i / 65536 % sockets i) refl
    (subst (λ (w : ℕ). IsRaised (IsTakenId c.word-word.new.self.queries (c.word-word.result / 65536 % c.from.result) c.args.server) (low_half w) c.free_id-id.result) c.word-word.ensures.is c.free_id-id.ensures)
    (λ i. (drew i).clock + (c.from-2.ensures ∙ c.wait_ms.ensures) i))
    c.put.ensures.ok

pub returns-clause-err : goal.returns-clause-err
returns-clause-err g c = on_err_weaker c.put.result (halts (state_of c.args.self.now) (state_of c.word-word.new.self) c.word-word.ensures.state (state_of c.put.new.self)) c.put.ensures.err
