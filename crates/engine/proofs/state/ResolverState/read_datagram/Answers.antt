use Rattle.std.proofs.Common.{◌≡◌, ℕ, sym, ◌∙◌, subst}
use Rattle.std.proofs.lemmas.Result.{IfOk-weaker, on_err_weaker}
use Rattle.wire.specs.declared.via.Via.TheVariants.{Udp}
use Rattle.classify.specs.Views.{reading_view}
use Rattle.events.specs.Paths.{endpoint_view}
use Rattle.runs.specs.States.{Datagram}
use Rattle.runs.specs.Messages.{id_in}
use Rattle.engine.specs.ResolverStates.{state_of}
use Rattle.engine.specs.Finds.{IsOffLine, Reaches}
use Rattle.engine.proofs.Arms.{datagram_missed, datagram_heard, datagram_lost}
use Rattle.engine.proofs.Heard.{datagram_carries}
use Rattle.engine.proofs.state.ResolverState.read_datagram.Goals as goal

pub hear-requires : goal.hear-requires
hear-requires g c = record {
  sound = c.requires.sound;
  there = (c.in-Some.ensures.found.query, c.in-Some.ensures.found.one);
  read = (Udp, c.requires.read.0, c.requires.read.1);
}

pub returns-in-Some-clause-ok : goal.returns-in-Some-clause-ok
returns-in-Some-clause-ok g c = λ now bytes from.
    let s = state_of c.args.self.now in
    let to = endpoint_view c.args.from in
    let id : (reading_view c.args.reading.now).id ≡ id_in bytes = sym (from.reads).id ∙ c.id_is_in_message.ensures bytes from.message from.is in
    IfOk-weaker c.hear.result _ _
    (datagram_heard s now c.args.socket to bytes c.in-Some.number (subst (λ (n : ℕ). Reaches s c.args.socket to n c.in-Some.number) id c.in-Some.ensures) (state_of c.hear.new.self))
    (c.hear.ensures.ok (Datagram now c.args.socket to bytes) Udp from.message from.reads
    (datagram_carries s now c.args.socket _ c.in-Some.number to bytes from.message c.in-Some.ensures from.is))

pub returns-in-Some-clause-err : goal.returns-in-Some-clause-err
returns-in-Some-clause-err g c = λ now bytes from.
    let s = state_of c.args.self.now in
    let to = endpoint_view c.args.from in
    let id : (reading_view c.args.reading.now).id ≡ id_in bytes = sym (from.reads).id ∙ c.id_is_in_message.ensures bytes from.message from.is in
    on_err_weaker c.hear.result
    (datagram_lost s now c.args.socket to bytes c.in-Some.number (subst (λ (n : ℕ). Reaches s c.args.socket to n c.in-Some.number) id c.in-Some.ensures) (state_of c.hear.new.self))
    (c.hear.ensures.err (Datagram now c.args.socket to bytes) Udp from.message from.reads
    (datagram_carries s now c.args.socket _ c.in-Some.number to bytes from.message c.in-Some.ensures from.is))

pub returns-in-None-clause-ok : goal.returns-in-None-clause-ok
returns-in-None-clause-ok g c = λ now bytes from.
    let s = state_of c.args.self.now in
    let to = endpoint_view c.args.from in
    let id : (reading_view c.args.reading.now).id ≡ id_in bytes = sym (from.reads).id ∙ c.id_is_in_message.ensures bytes from.message from.is in
    datagram_missed s now c.args.socket to bytes (subst (λ (n : ℕ). IsOffLine s c.args.socket to n) id c.in-None.ensures)
