use Rattle.std.proofs.Common.{ℕ, None, refl, subst, rules}
use Rattle.wire.specs.declared.via.Via.TheVariants.{Udp}
use Rattle.classify.specs.Read.{IsReadFrom}
use Rattle.classify.specs.Views.{reading_view}
use Rattle.events.specs.Paths.{endpoint_view}
use Rattle.runs.specs.States.{Datagram}
use Rattle.engine.specs.ResolverStates.{state_of}
use Rattle.engine.specs.Finds.{IsOffLine, Reaches}
use Rattle.engine.proofs.Arms.{datagram_short, datagram_missed, datagram_heard, datagram_lost, datagram_loud}
use Rattle.engine.proofs.Heard.{is_lost_unread, unread}
use Rattle.engine.proofs.state.ResolverState.datagram.Goals as goal

pub forget-requires : goal.forget-requires
forget-requires g c = (c.in-Some.ensures.found.query, c.in-Some.ensures.found.one)

pub kind_of-requires : goal.kind_of-requires
kind_of-requires g c = (c.in-Some.ensures.found.query, c.in-Some.ensures.found.one)

pub read_datagram-given-requires : goal.read_datagram-given-requires
read_datagram-given-requires g c =
    let from : IsReadFrom Udp c.args.bytes.now (reading_view c.in-Ok-Some.reading) = rw c.in-Ok-Some.field-0-is at c.in-Ok-Some.ensures in
    record { sound = c.requires.sound; read = (from.message, from.reads) }

pub returns-then-bytes-lt-HEADER-clause-ok : goal.returns-then-bytes-lt-HEADER-clause-ok
returns-then-bytes-lt-HEADER-clause-ok g c = λ now. datagram_short (state_of c.args.self.now) now c.args.socket (endpoint_view c.args.from) c.args.bytes.now (search rules)

pub returns-in_default-clause-ok : goal.returns-in_default-clause-ok
returns-in_default-clause-ok g c = λ now.
    datagram_missed (state_of c.args.self.now) now c.args.socket (endpoint_view c.args.from) c.args.bytes.now
    (subst (λ (n : ℕ). IsOffLine (state_of c.args.self.now) c.args.socket (endpoint_view c.args.from) n) c.id_in.ensures c.in_default.ensures)

pub returns-in-Err-clause-err : goal.returns-in-Err-clause-err
returns-in-Err-clause-err g c = λ now.
    let s = state_of c.args.self.now in
    let to = endpoint_view c.args.from in
    datagram_lost s now c.args.socket to c.args.bytes.now c.in-Some.number (subst (λ (n : ℕ). Reaches s c.args.socket to n c.in-Some.number) c.id_in.ensures c.in-Some.ensures) (state_of c.forget.new.self)
    (is_lost_unread s c.in-Some.number (Datagram now c.args.socket to c.args.bytes.now) (state_of c.forget.new.self) c.forget.ensures)

pub returns-in-Err-clause-quiet : goal.returns-in-Err-clause-quiet
returns-in-Err-clause-quiet g c = λ now quiet.
    let s = state_of c.args.self.now in
    let to = endpoint_view c.args.from in
    absurd (datagram_loud s now c.args.socket to c.args.bytes.now c.in-Some.number (subst (λ (n : ℕ). Reaches s c.args.socket to n c.in-Some.number) c.id_in.ensures c.in-Some.ensures) s (search rules) quiet)

pub returns-in-Ok-None-clause-ok : goal.returns-in-Ok-None-clause-ok
returns-in-Ok-None-clause-ok g c = λ now.
    let s = state_of c.args.self.now in
    let to = endpoint_view c.args.from in
    let here = c.in-Some.ensures.found in
    datagram_heard s now c.args.socket to c.args.bytes.now c.in-Some.number (subst (λ (n : ℕ). Reaches s c.args.socket to n c.in-Some.number) c.id_in.ensures c.in-Some.ensures) s {A = ℕ} None (record {
      query = here.query;
      one = here.one;
      unfit = λ m brought. unread Udp c.args.bytes.now c.kind_of.result (here.query).ask m (rw c.in-Ok-None.field-0-is at c.in-Ok-None.ensures) (c.kind_of.ensures here.query here.one) brought.2 brought.3;
      state = refl;
    })

pub returns-in-Ok-Some-clause-ok : goal.returns-in-Ok-Some-clause-ok
returns-in-Ok-Some-clause-ok g c = λ now. c.read_datagram-given.ensures.ok now c.args.bytes.now (rw c.in-Ok-Some.field-0-is at c.in-Ok-Some.ensures)

pub returns-in-Ok-Some-clause-err : goal.returns-in-Ok-Some-clause-err
returns-in-Ok-Some-clause-err g c = λ now. c.read_datagram-given.ensures.err now c.args.bytes.now (rw c.in-Ok-Some.field-0-is at c.in-Ok-Some.ensures)

pub returns-in-Ok-Some-clause-quiet : goal.returns-in-Ok-Some-clause-quiet
returns-in-Ok-Some-clause-quiet g c = λ now quiet.
    let s = state_of c.args.self.now in
    let to = endpoint_view c.args.from in
    absurd (datagram_loud s now c.args.socket to c.args.bytes.now c.in-Some.number (subst (λ (n : ℕ). Reaches s c.args.socket to n c.in-Some.number) c.id_in.ensures c.in-Some.ensures) s (search rules) quiet)
