use Rattle.std.proofs.Common.{sym}
use Rattle.runs.specs.States.{TcpReply}
use Rattle.engine.specs.ResolverStates.{state_of}
use Rattle.engine.proofs.Arms.{reply_missed, reply_lost, reply_loud}
use Rattle.engine.proofs.Heard.{is_lost_unread}
use Rattle.engine.proofs.state.ResolverState.tcp_reply.Goals as goal

pub forget-requires : goal.forget-requires
forget-requires g c = (c.in-Some.ensures.query, c.in-Some.ensures.one)

pub read_reply-given-requires : goal.read_reply-given-requires
read_reply-given-requires g c = record { sound = c.requires.sound; read = (c.args.bytes.now, rw (sym c.as_ref.ensures.value) at c.in-Ok.ensures) }

pub returns-in_default-clause-ok : goal.returns-in_default-clause-ok
returns-in_default-clause-ok g c = λ now. reply_missed (state_of c.args.self.now) now c.args.ask c.args.bytes.now c.in_default.ensures

pub returns-in-Err-clause-err : goal.returns-in-Err-clause-err
returns-in-Err-clause-err g c = λ now.
    reply_lost (state_of c.args.self.now) now c.args.ask c.args.bytes.now c.in-Some.number c.in-Some.ensures (state_of c.forget.new.self)
    (is_lost_unread (state_of c.args.self.now) c.in-Some.number (TcpReply now c.args.ask c.args.bytes.now) (state_of c.forget.new.self) c.forget.ensures)

pub returns-in-Err-clause-quiet : goal.returns-in-Err-clause-quiet
returns-in-Err-clause-quiet g c = λ now q. absurd (reply_loud (state_of c.args.self.now) now c.args.ask c.args.bytes.now c.in-Some.number c.in-Some.ensures q)

pub returns-in-Ok-clause-ok : goal.returns-in-Ok-clause-ok
returns-in-Ok-clause-ok g c = λ now. (rw c.as_ref.ensures.value at c.read_reply-given.ensures.ok) now c.args.bytes.now c.in-Ok.ensures

pub returns-in-Ok-clause-err : goal.returns-in-Ok-clause-err
returns-in-Ok-clause-err g c = λ now. (rw c.as_ref.ensures.value at c.read_reply-given.ensures.err) now c.args.bytes.now c.in-Ok.ensures

pub returns-in-Ok-clause-quiet : goal.returns-in-Ok-clause-quiet
returns-in-Ok-clause-quiet g c = λ now q. absurd (reply_loud (state_of c.args.self.now) now c.args.ask c.args.bytes.now c.in-Some.number c.in-Some.ensures q)
