use Rattle.std.proofs.Common.{Some, sym, ◌∙◌, subst, refl, List}
use Rattle.runs.specs.States.{Open}
use Rattle.slab.specs.Slab.{values}
use Rattle.open_queries.specs.Lookups.{HasNo, IsTaken}
use Rattle.open_queries.specs.Indexes.{LeadsTo}
use Rattle.open_queries.proofs.Apart.{Removes, numbered, keyed_there, taken_out}
use Rattle.open_queries.proofs.Indexed.{dropped_of, without_indexed}
use Rattle.open_queries.proofs.queries.Queries.take_out.Goals as goal

pub returns-in_err-key : goal.returns-in_err-key
returns-in_err-key g c =
    let led = subst (LeadsTo c.self.inside.slots c.args.number) (sym c.key_of.ensures ∙ c.in_err-key.was) ((c.self.invariant).keyed c.args.number) in
    let none : HasNo c.args.self.now c.args.number = subst (λ (qs : List Open). HasNo qs c.args.number) c.self.view_is led in
    subst (λ r. Removes c.args.self.now c.args.number r c.args.self.now) (sym c.from_residual.ensures) (none, refl)

pub remove-taken-requires : goal.remove-taken-requires
remove-taken-requires g c =
    keyed_there c.self.inside.slots c.args.number c.in_ok-key.key (subst (LeadsTo c.self.inside.slots c.args.number) (sym c.key_of.ensures ∙ c.in_ok-key.was) ((c.self.invariant).keyed c.args.number))

pub returns : goal.returns
returns g c =
    let led = subst (LeadsTo c.self.inside.slots c.args.number) (sym c.key_of.ensures ∙ c.in_ok-key.was) ((c.self.invariant).keyed c.args.number) in
    let out = taken_out c.self.inside.slots c.remove-taken.new.self c.args.number c.in_ok-key.key c.remove-taken.result (c.self.invariant).apart led c.remove-taken.ensures.value c.remove-taken.ensures.updates c.remove-taken.ensures.len in
    subst (λ (qs : List Open). IsTaken qs c.args.number c.remove-taken.result (values c.remove-taken.new.self)) c.self.view_is out

pub invariant_of-self : goal.invariant_of-self
invariant_of-self g c =
    let led : LeadsTo c.self.inside.slots c.args.number (Some c.in_ok-key.key) = subst (LeadsTo c.self.inside.slots c.args.number) (sym c.key_of.ensures ∙ c.in_ok-key.was) ((c.self.invariant).keyed c.args.number) in
    let there = c.remove-taken.ensures.value in
    without_indexed c.self.inside.slots c.remove-taken.new.self c.args.number c.in_ok-key.key c.remove-taken.result there (numbered c.self.inside.slots c.args.number c.in_ok-key.key c.remove-taken.result led there)
    c.remove-taken.ensures.updates c.self.inside.keys.entries c.drop_key.new.keys.entries c.self.inside.streams.entries c.drop_stream.new.streams.entries c.self.inside.asks c.clear.new.self c.self.invariant c.drop_key.ensures
    (dropped_of c.remove-taken.result c.tcp_ask.result c.self.inside.streams.entries c.drop_stream.new.streams.entries c.tcp_ask.ensures c.drop_stream.ensures) c.clear.ensures
