use Rattle.std.proofs.Common.{◌≡◌, sym, ◌∙◌, subst, ap, refl, ◌+◌, List, length}
use Rattle.runs.specs.States.{Open}
use Rattle.runs.specs.Steps.{AreWith}
use Rattle.slab.specs.Slab.{values}
use Rattle.asks.specs.Waits.{IsFreeFor}
use Rattle.open_queries.specs.Lookups.{HasNo, IsFree}
use Rattle.open_queries.proofs.Apart.{put_in, one_more}
use Rattle.open_queries.proofs.Waits.{free_for}
use Rattle.open_queries.proofs.Indexed.{at_err, not_ok, same_values, same_indexed, IsRead, put_indexed}
use Rattle.open_queries.proofs.queries.Queries.put.Goals as goal

pub invariant_of-self : goal.invariant_of-self
invariant_of-self g c =
    same_indexed c.self.inside.slots c.make_room.new.slots c.self.inside.keys.entries c.make_room.new.keys.entries c.self.inside.streams.entries c.make_room.new.streams.entries c.self.inside.asks c.self.inside.asks c.self.invariant c.make_room.ensures.slots c.make_room.ensures.keys c.make_room.ensures.streams (λ n. refl)

pub returns-in_err-make_room-clause-err : goal.returns-in_err-make_room-clause-err
returns-in_err-make_room-clause-err g c = at_err _ (same_values c.self.inside.slots c.make_room.new.slots c.args.self.now c.make_room.ensures.slots c.self.view_is)

pub set-requires : goal.set-requires
set-requires g c =
    let free = subst (λ (qs : List Open). IsFree qs c.args.added.ask) (sym c.self.view_is) c.requires.free in
    subst (IsFreeFor c.self.inside.asks c.number-number.result) (sym c.udp_ask.ensures) (free_for (values c.self.inside.slots) c.self.inside.asks (c.self.invariant).waits c.number-number.result c.args.added.ask free)

pub invariant_of-self-in_err-set : goal.invariant_of-self-in_err-set
invariant_of-self-in_err-set g c =
    same_indexed c.self.inside.slots c.make_room.new.slots c.self.inside.keys.entries c.make_room.new.keys.entries c.self.inside.streams.entries c.make_room.new.streams.entries c.self.inside.asks c.set.new.self c.self.invariant c.make_room.ensures.slots c.make_room.ensures.keys c.make_room.ensures.streams c.in_err-set.ensures.err

pub returns-in_err-set-clause-ok : goal.returns-in_err-set-clause-ok
returns-in_err-set-clause-ok g c = not_ok _ c.from_residual-in_err-set.result c.from_residual-in_err-set.ensures.0

pub returns-in_err-set-clause-more : goal.returns-in_err-set-clause-more
returns-in_err-set-clause-more g c = not_ok _ c.from_residual-in_err-set.result c.from_residual-in_err-set.ensures.0

pub returns-in_err-set-clause-err : goal.returns-in_err-set-clause-err
returns-in_err-set-clause-err g c = at_err _ (same_values c.self.inside.slots c.make_room.new.slots c.args.self.now c.make_room.ensures.slots c.self.view_is)

pub invariant_of-self-2 : goal.invariant_of-self-2
invariant_of-self-2 g c =
    let slots = c.make_room.ensures.slots in
    let roomy = same_indexed c.self.inside.slots c.make_room.new.slots c.self.inside.keys.entries c.make_room.new.keys.entries c.self.inside.streams.entries c.make_room.new.streams.entries c.self.inside.asks c.self.inside.asks c.self.invariant slots c.make_room.ensures.keys c.make_room.ensures.streams (λ n. refl) in
    let same : values c.make_room.new.slots ≡ c.args.self.now = same_values c.self.inside.slots c.make_room.new.slots c.args.self.now c.make_room.ensures.slots c.self.view_is in
    let fresh = subst (λ (qs : List Open). HasNo qs c.args.added.number) (sym same) c.requires.fresh in
    let free = subst (λ (qs : List Open). IsFree qs c.args.added.ask) (sym same) c.requires.free in
    let read : IsRead c.args.added c.number-number.result c.tcp_ask.result c.udp_ask.result c.due_moment.result =
    record { number_is = c.number-number.ensures; over_is = c.tcp_ask.ensures; ask_is = c.udp_ask.ensures; due_is = c.due_moment.ensures }
    in
    put_indexed c.make_room.new.slots c.insert_reserved-key.new.self c.insert_reserved-key.result c.args.added c.number-number.result c.tcp_ask.result c.udp_ask.result c.due_moment.result
    c.make_room.new.keys.entries c.put_key.new.keys.entries c.make_room.new.streams.entries c.put_stream.new.streams.entries c.self.inside.asks c.set.new.self read c.insert_reserved-key.ensures.was_vacant
    c.insert_reserved-key.ensures.updates roomy fresh free c.put_key.ensures c.put_stream.ensures c.in_ok-set.ensures.ok

pub returns-clause-ok : goal.returns-clause-ok
returns-clause-ok g c =
    let slots = c.make_room.ensures.slots in
    let roomy = same_indexed c.self.inside.slots c.make_room.new.slots c.self.inside.keys.entries c.make_room.new.keys.entries c.self.inside.streams.entries c.make_room.new.streams.entries c.self.inside.asks c.self.inside.asks c.self.invariant slots c.make_room.ensures.keys c.make_room.ensures.streams (λ n. refl) in
    let same : values c.make_room.new.slots ≡ c.args.self.now = same_values c.self.inside.slots c.make_room.new.slots c.args.self.now c.make_room.ensures.slots c.self.view_is in
    let fresh = subst (λ (qs : List Open). HasNo qs c.args.added.number) (sym same) c.requires.fresh in
    subst (λ (qs : List Open). AreWith c.args.added qs (values c.insert_reserved-key.new.self)) same
    (put_in c.make_room.new.slots c.insert_reserved-key.new.self c.insert_reserved-key.result c.args.added roomy.apart c.insert_reserved-key.ensures.was_vacant c.insert_reserved-key.ensures.updates fresh)

pub returns-clause-more : goal.returns-clause-more
returns-clause-more g c =
    let same : values c.make_room.new.slots ≡ c.args.self.now = same_values c.self.inside.slots c.make_room.new.slots c.args.self.now c.make_room.ensures.slots c.self.view_is in
    one_more c.make_room.new.slots c.insert_reserved-key.new.self c.insert_reserved-key.ensures.len ∙ ap (λ (qs : List Open). length qs + 1) same
