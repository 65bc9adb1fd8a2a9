use Rattle.std.proofs.Common.{◌≡◌, ◌∙◌, sym, ap, subst, None, Some}
use Rattle.events.specs.declared.event.Event.{Event as EventSpec}
use Rattle.runs.specs.States.{Event, Client, Datagram, TcpReply, TcpFailed, Tick}
use Rattle.events.specs.Paths.{endpoint_view}
use Rattle.events.specs.Views.{event_view}
use Rattle.engine.specs.Replies.{if_any}
use Rattle.engine.specs.ResolverStates.{state_of}
use Rattle.engine.specs.Turns.{Turns, IsQuiet}
use Rattle.engine.proofs.Told.{alone_ok, alone_err, alone_quiet, ok_at, err_at}
use Rattle.engine.proofs.state.ResolverState.handle_event.Given.{Over}
use Rattle.engine.proofs.state.ResolverState.handle_event.Goals as goal

at_client : (g : Over) (c : goal.After-alone g) → event_view c.args.event.now ≡ Client c.in-Client.moment c.in-Client.client c.in-Client.way c.as_slice.result.now
at_client g c = ap (λ (e : EventSpec g.row.A.Denot). event_view e) c.in-Client.is ∙ ap (λ bytes. Client c.in-Client.moment c.in-Client.client c.in-Client.way bytes) (sym c.as_slice.ensures.is)

pub returns-in-Client-clause-ok : goal.returns-in-Client-clause-ok
returns-in-Client-clause-ok g c =
    alone_ok (state_of c.args.self.now) (state_of c.client.new.self) (event_view c.args.event.now) (Client c.in-Client.moment c.in-Client.client c.in-Client.way c.as_slice.result.now) c.client.result c.alone.result c.alone.ensures
    (at_client g c) (ok_at c.client.result (λ o n. Turns (state_of c.args.self.now) (Client n c.in-Client.client c.in-Client.way c.as_slice.result.now) (Some (if_any o)) (state_of c.client.new.self)) c.in-Client.moment c.client.ensures.ok)

pub returns-in-Client-clause-err : goal.returns-in-Client-clause-err
returns-in-Client-clause-err g c =
    alone_err (state_of c.args.self.now) (state_of c.client.new.self) (event_view c.args.event.now) (Client c.in-Client.moment c.in-Client.client c.in-Client.way c.as_slice.result.now) c.client.result c.alone.result c.alone.ensures
    (at_client g c) (err_at c.client.result (λ n. Turns (state_of c.args.self.now) (Client n c.in-Client.client c.in-Client.way c.as_slice.result.now) None (state_of c.client.new.self)) c.in-Client.moment c.client.ensures.err)

pub returns-in-Client-clause-quiet : goal.returns-in-Client-clause-quiet
returns-in-Client-clause-quiet g c q = alone_quiet c.client.result c.alone.result c.alone.ensures (c.client.ensures.quiet (subst (λ (e : Event). IsQuiet (state_of c.args.self.now) e) (at_client g c) q))

at_datagram : (g : Over) (c : goal.After-alone-in-Datagram g) → event_view c.args.event.now ≡ Datagram c.in-Datagram.moment c.in-Datagram.socket (endpoint_view c.in-Datagram.from) c.as_slice-in-Datagram.result.now
at_datagram g c = ap (λ (e : EventSpec g.row.A.Denot). event_view e) c.in-Datagram.is ∙ ap (λ bytes. Datagram c.in-Datagram.moment c.in-Datagram.socket (endpoint_view c.in-Datagram.from) bytes) (sym c.as_slice-in-Datagram.ensures.is)

pub returns-in-Datagram-clause-ok : goal.returns-in-Datagram-clause-ok
returns-in-Datagram-clause-ok g c =
    alone_ok (state_of c.args.self.now) (state_of c.datagram.new.self) (event_view c.args.event.now) (Datagram c.in-Datagram.moment c.in-Datagram.socket (endpoint_view c.in-Datagram.from) c.as_slice-in-Datagram.result.now) c.datagram.result c.alone-in-Datagram.result c.alone-in-Datagram.ensures
    (at_datagram g c) (c.datagram.ensures.ok c.in-Datagram.moment)

pub returns-in-Datagram-clause-err : goal.returns-in-Datagram-clause-err
returns-in-Datagram-clause-err g c =
    alone_err (state_of c.args.self.now) (state_of c.datagram.new.self) (event_view c.args.event.now) (Datagram c.in-Datagram.moment c.in-Datagram.socket (endpoint_view c.in-Datagram.from) c.as_slice-in-Datagram.result.now) c.datagram.result c.alone-in-Datagram.result c.alone-in-Datagram.ensures
    (at_datagram g c) (c.datagram.ensures.err c.in-Datagram.moment)

pub returns-in-Datagram-clause-quiet : goal.returns-in-Datagram-clause-quiet
returns-in-Datagram-clause-quiet g c q = alone_quiet c.datagram.result c.alone-in-Datagram.result c.alone-in-Datagram.ensures (c.datagram.ensures.quiet c.in-Datagram.moment (subst (λ (e : Event). IsQuiet (state_of c.args.self.now) e) (at_datagram g c) q))

at_reply : (g : Over) (c : goal.After-alone-in-TcpReply g) → event_view c.args.event.now ≡ TcpReply c.in-TcpReply.moment c.in-TcpReply.number c.as_slice-in-TcpReply.result.now
at_reply g c = ap (λ (e : EventSpec g.row.A.Denot). event_view e) c.in-TcpReply.is ∙ ap (λ bytes. TcpReply c.in-TcpReply.moment c.in-TcpReply.number bytes) (sym c.as_slice-in-TcpReply.ensures.is)

pub returns-in-TcpReply-clause-ok : goal.returns-in-TcpReply-clause-ok
returns-in-TcpReply-clause-ok g c =
    alone_ok (state_of c.args.self.now) (state_of c.tcp_reply.new.self) (event_view c.args.event.now) (TcpReply c.in-TcpReply.moment c.in-TcpReply.number c.as_slice-in-TcpReply.result.now) c.tcp_reply.result c.alone-in-TcpReply.result c.alone-in-TcpReply.ensures
    (at_reply g c) (c.tcp_reply.ensures.ok c.in-TcpReply.moment)

pub returns-in-TcpReply-clause-err : goal.returns-in-TcpReply-clause-err
returns-in-TcpReply-clause-err g c =
    alone_err (state_of c.args.self.now) (state_of c.tcp_reply.new.self) (event_view c.args.event.now) (TcpReply c.in-TcpReply.moment c.in-TcpReply.number c.as_slice-in-TcpReply.result.now) c.tcp_reply.result c.alone-in-TcpReply.result c.alone-in-TcpReply.ensures
    (at_reply g c) (c.tcp_reply.ensures.err c.in-TcpReply.moment)

pub returns-in-TcpReply-clause-quiet : goal.returns-in-TcpReply-clause-quiet
returns-in-TcpReply-clause-quiet g c q = alone_quiet c.tcp_reply.result c.alone-in-TcpReply.result c.alone-in-TcpReply.ensures (c.tcp_reply.ensures.quiet c.in-TcpReply.moment (subst (λ (e : Event). IsQuiet (state_of c.args.self.now) e) (at_reply g c) q))

at_failure : (g : Over) (c : goal.After-alone-in-TcpFailed g) → event_view c.args.event.now ≡ TcpFailed c.in-TcpFailed.moment c.in-TcpFailed.number
at_failure g c = ap (λ (e : EventSpec g.row.A.Denot). event_view e) c.in-TcpFailed.is

pub returns-in-TcpFailed-clause-ok : goal.returns-in-TcpFailed-clause-ok
returns-in-TcpFailed-clause-ok g c =
    alone_ok (state_of c.args.self.now) (state_of c.tcp_failed.new.self) (event_view c.args.event.now) (TcpFailed c.in-TcpFailed.moment c.in-TcpFailed.number) c.tcp_failed.result c.alone-in-TcpFailed.result c.alone-in-TcpFailed.ensures
    (at_failure g c) (c.tcp_failed.ensures.ok c.in-TcpFailed.moment)

pub returns-in-TcpFailed-clause-err : goal.returns-in-TcpFailed-clause-err
returns-in-TcpFailed-clause-err g c =
    alone_err (state_of c.args.self.now) (state_of c.tcp_failed.new.self) (event_view c.args.event.now) (TcpFailed c.in-TcpFailed.moment c.in-TcpFailed.number) c.tcp_failed.result c.alone-in-TcpFailed.result c.alone-in-TcpFailed.ensures
    (at_failure g c) (c.tcp_failed.ensures.err c.in-TcpFailed.moment)

pub returns-in-TcpFailed-clause-quiet : goal.returns-in-TcpFailed-clause-quiet
returns-in-TcpFailed-clause-quiet g c q = alone_quiet c.tcp_failed.result c.alone-in-TcpFailed.result c.alone-in-TcpFailed.ensures (c.tcp_failed.ensures.quiet c.in-TcpFailed.moment (subst (λ (e : Event). IsQuiet (state_of c.args.self.now) e) (at_failure g c) q))

at_tick : (g : Over) (c : goal.After-tick g) → event_view c.args.event.now ≡ Tick c.in-Tick.moment
at_tick g c = ap (λ (e : EventSpec g.row.A.Denot). event_view e) c.in-Tick.is

pub returns-in-Tick-clause-quiet : goal.returns-in-Tick-clause-quiet
returns-in-Tick-clause-quiet g c q = c.tick.ensures.quiet c.in-Tick.moment (subst (λ (e : Event). IsQuiet (state_of c.args.self.now) e) (at_tick g c) q)
