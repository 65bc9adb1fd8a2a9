use Rattle.runs.specs.States.{Client, Datagram, TcpReply, TcpFailed}
use Rattle.events.specs.Paths.{endpoint_view}
use Rattle.engine.specs.ResolverStates.{state_of}
use Rattle.engine.proofs.Told.{alone_ok, alone_err}
use Rattle.engine.proofs.state.ResolverState.handle_parsed.Goals as goal

pub returns-in-Client-clause-ok : goal.returns-in-Client-clause-ok
returns-in-Client-clause-ok g c e reads =
    let r = rw c.in-Client.is at reads in
    alone_ok (state_of c.args.self.now) (state_of c.read_client.new.self) e (Client c.in-Client.moment c.in-Client.client c.in-Client.way r.0) c.read_client.result c.alone.result c.alone.ensures r.1 (c.read_client.ensures.ok c.in-Client.moment r.0 r.2)

pub returns-in-Client-clause-err : goal.returns-in-Client-clause-err
returns-in-Client-clause-err g c e reads =
    let r = rw c.in-Client.is at reads in
    alone_err (state_of c.args.self.now) (state_of c.read_client.new.self) e (Client c.in-Client.moment c.in-Client.client c.in-Client.way r.0) c.read_client.result c.alone.result c.alone.ensures r.1 (c.read_client.ensures.err c.in-Client.moment r.0 r.2)

pub returns-in-Datagram-clause-ok : goal.returns-in-Datagram-clause-ok
returns-in-Datagram-clause-ok g c e reads =
    let r = rw c.in-Datagram.is at reads in
    alone_ok (state_of c.args.self.now) (state_of c.read_datagram.new.self) e (Datagram c.in-Datagram.moment c.in-Datagram.socket (endpoint_view c.in-Datagram.from) r.0) c.read_datagram.result c.alone-in-Datagram.result c.alone-in-Datagram.ensures r.1 ((rw c.deref.ensures at c.read_datagram.ensures.ok) c.in-Datagram.moment r.0 r.2)

pub returns-in-Datagram-clause-err : goal.returns-in-Datagram-clause-err
returns-in-Datagram-clause-err g c e reads =
    let r = rw c.in-Datagram.is at reads in
    alone_err (state_of c.args.self.now) (state_of c.read_datagram.new.self) e (Datagram c.in-Datagram.moment c.in-Datagram.socket (endpoint_view c.in-Datagram.from) r.0) c.read_datagram.result c.alone-in-Datagram.result c.alone-in-Datagram.ensures r.1 ((rw c.deref.ensures at c.read_datagram.ensures.err) c.in-Datagram.moment r.0 r.2)

pub returns-in-TcpReply-clause-ok : goal.returns-in-TcpReply-clause-ok
returns-in-TcpReply-clause-ok g c e reads =
    let r = rw c.in-TcpReply.is at reads in
    alone_ok (state_of c.args.self.now) (state_of c.read_reply.new.self) e (TcpReply c.in-TcpReply.moment c.in-TcpReply.number r.0) c.read_reply.result c.alone-in-TcpReply.result c.alone-in-TcpReply.ensures r.1 ((rw c.lent_reading.ensures at c.read_reply.ensures.ok) c.in-TcpReply.moment r.0 r.2)

pub returns-in-TcpReply-clause-err : goal.returns-in-TcpReply-clause-err
returns-in-TcpReply-clause-err g c e reads =
    let r = rw c.in-TcpReply.is at reads in
    alone_err (state_of c.args.self.now) (state_of c.read_reply.new.self) e (TcpReply c.in-TcpReply.moment c.in-TcpReply.number r.0) c.read_reply.result c.alone-in-TcpReply.result c.alone-in-TcpReply.ensures r.1 ((rw c.lent_reading.ensures at c.read_reply.ensures.err) c.in-TcpReply.moment r.0 r.2)

pub returns-in-TcpFailed-clause-ok : goal.returns-in-TcpFailed-clause-ok
returns-in-TcpFailed-clause-ok g c e reads =
    let r = rw c.in-TcpFailed.is at reads in
    alone_ok (state_of c.args.self.now) (state_of c.tcp_failed.new.self) e (TcpFailed c.in-TcpFailed.moment c.in-TcpFailed.number) c.tcp_failed.result c.alone-in-TcpFailed.result c.alone-in-TcpFailed.ensures r (c.tcp_failed.ensures.ok c.in-TcpFailed.moment)

pub returns-in-TcpFailed-clause-err : goal.returns-in-TcpFailed-clause-err
returns-in-TcpFailed-clause-err g c e reads =
    let r = rw c.in-TcpFailed.is at reads in
    alone_err (state_of c.args.self.now) (state_of c.tcp_failed.new.self) e (TcpFailed c.in-TcpFailed.moment c.in-TcpFailed.number) c.tcp_failed.result c.alone-in-TcpFailed.result c.alone-in-TcpFailed.ensures r (c.tcp_failed.ensures.err c.in-TcpFailed.moment)
