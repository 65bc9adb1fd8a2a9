use Rattle.std.proofs.lemmas.Result.{IfOk-weaker, on_err_weaker}
use Rattle.events.specs.Views.{event_view}
use Rattle.engine.specs.ResolverStates.{state_of}
use Rattle.engine.proofs.Unwritten.{as_written, unwritten, is_ok, none_gone}
use Rattle.engine.proofs.state.ResolverState.serve.Goals as goal

pub returns-clause-ok : goal.returns-clause-ok
returns-clause-ok g c =
    IfOk-weaker c.write_out.result _ _
    (λ a h. as_written (state_of c.args.self.now) (state_of c.handle_event.new.self) (state_of c.write_out.new.self) (event_view c.args.event.now) _ a h.0 h.1 c.in_ok-said.ensures.ok)
    c.write_out.ensures.ok

pub returns-clause-err : goal.returns-clause-err
returns-clause-err g c =
    let turns = c.in_ok-said.ensures.ok in
    on_err_weaker c.write_out.result
    (λ h. unwritten (state_of c.args.self.now) (state_of c.handle_event.new.self) (state_of c.write_out.new.self) c.requires.sound c.id_is_in_message.ensures (event_view c.args.event.now)
    c.in_ok-said.said.first c.in_ok-said.said.more_due turns h)
    c.write_out.ensures.err

pub returns-clause-quiet : goal.returns-clause-quiet
returns-clause-quiet g c = λ quiet. is_ok c.write_out.result _ c.write_out.ensures.err (none_gone c.in_ok-said.said.first _ (c.in_ok-said.ensures.quiet quiet))
