use Rattle.std.proofs.Common.{refl}
use Rattle.wire.specs.declared.via.Via.TheVariants.{Tcp}
use Rattle.classify.specs.Read.{IsReadFrom}
use Rattle.classify.specs.Views.{reading_view}
use Rattle.runs.specs.States.{TcpReply}
use Rattle.engine.proofs.Heard.{unread, reply_carries}
use Rattle.engine.proofs.state.ResolverState.hear_over.Goals as goal

pub hear-requires : goal.hear-requires
hear-requires g c =
    let from : IsReadFrom Tcp c.requires.read.0 (reading_view c.in-Some.reading.now) = rw c.in-Some.is at c.requires.read.1 in
    record { sound = c.requires.sound; there = c.requires.there; read = (Tcp, from.message, from.reads) }

pub returns-in-Some-clause-ok : goal.returns-in-Some-clause-ok
returns-in-Some-clause-ok g c = λ now bytes read.
    let from : IsReadFrom Tcp bytes (reading_view c.in-Some.reading.now) = rw c.in-Some.is at read in
    c.hear.ensures.ok (TcpReply now c.args.ask bytes) Tcp from.message from.reads
    (reply_carries c.args.self.now.queries c.args.self.now.port now c.args.ask c.args.number bytes from.message c.requires.asked from.is)

pub returns-in-Some-clause-err : goal.returns-in-Some-clause-err
returns-in-Some-clause-err g c = λ now bytes read.
    let from : IsReadFrom Tcp bytes (reading_view c.in-Some.reading.now) = rw c.in-Some.is at read in
    c.hear.ensures.err (TcpReply now c.args.ask bytes) Tcp from.message from.reads
    (reply_carries c.args.self.now.queries c.args.self.now.port now c.args.ask c.args.number bytes from.message c.requires.asked from.is)

pub returns-in-None-clause-ok : goal.returns-in-None-clause-ok
returns-in-None-clause-ok g c = λ now bytes read. record {
  query = c.requires.there.0;
  one = c.requires.there.1;
  unfit = λ m brought.
      unread Tcp bytes c.kind_of.result (c.requires.there.0).ask m (rw c.in-None.is at read) (c.kind_of.ensures c.requires.there.0 c.requires.there.1) brought.1 brought.2;
  state = refl;
}
