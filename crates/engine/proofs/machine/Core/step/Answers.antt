use Rattle.std.proofs.Common.{◌≡◌, ℕ, max, Some, None, ◌∙◌, ap, sym, subst}
use Rattle.std.proofs.lemmas.Result.{IfOk-weaker, on_err_weaker}
use Rattle.events.specs.Views.{event_view}
use Rattle.runs.specs.States.{Event, State, moved}
use Rattle.engine.specs.ResolverStates.{state_of, IsSound}
use Rattle.engine.specs.Turns.{Turns, IsQuiet}
use Rattle.engine.proofs.Stepped.{by_result, heard_is_sound, stepped, stepped_is_sound}
use Rattle.engine.proofs.machine.Core.step.Goals as goal

pub serve-out-requires : goal.serve-out-requires
serve-out-requires g c =
    let was : State = state_of c.self.inside.state in
    let event : Event = event_view c.args.event.now in
    let heard : state_of c.advance_clock.new.self ≡ moved was event = c.advance_clock.ensures ∙ ap (λ (n : ℕ). record was { clock = max was.clock n }) c.moment.ensures.is in
    record { sound = heard_is_sound was (state_of c.advance_clock.new.self) event heard c.self.invariant }

pub invariant_of-self : goal.invariant_of-self
invariant_of-self g c =
    let was : State = state_of c.self.inside.state in
    let mid : State = state_of c.advance_clock.new.self in
    let new : State = state_of c.serve-out.new.self in
    let event : Event = event_view c.args.event.now in
    let heard : mid ≡ moved was event = c.advance_clock.ensures ∙ ap (λ (n : ℕ). record was { clock = max was.clock n }) c.moment.ensures.is in
    by_result c.serve-out.result (λ a. Turns mid event (Some a) new) (Turns mid event None new) (IsSound new) c.serve-out.ensures.ok c.serve-out.ensures.err
    (λ a h. stepped_is_sound was mid event heard new c.apart_law.ensures (Some a) h c.self.invariant)
    (λ h. stepped_is_sound was mid event heard new c.apart_law.ensures None h c.self.invariant)

pub returns : goal.returns
returns g c =
    let was : State = c.args.self.now in
    let mid : State = state_of c.advance_clock.new.self in
    let new : State = state_of c.serve-out.new.self in
    let event : Event = event_view c.args.event.now in
    let inside : State = state_of c.self.inside.state in
    let heard : mid ≡ moved was event = c.advance_clock.ensures ∙ ap (λ (n : ℕ). record inside { clock = max inside.clock n }) c.moment.ensures.is ∙ ap (λ (z : State). moved z event) c.self.view_is in
    record {
      ok = IfOk-weaker c.serve-out.result _ _ (λ a h. stepped was mid event heard new c.apart_law.ensures (Some a) h) c.serve-out.ensures.ok;
      err = on_err_weaker c.serve-out.result (stepped was mid event heard new c.apart_law.ensures None) c.serve-out.ensures.err;
      quiet = λ q. c.serve-out.ensures.quiet (subst (λ (z : State). IsQuiet z event) (sym heard) q);
    }
