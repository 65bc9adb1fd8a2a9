use Rattle.std.proofs.Common.{◌≡◌, max, Some, None, ◌∙◌, ap, sym, subst, ℕ}
use Rattle.std.proofs.lemmas.Result.{IfOk-weaker, on_err_weaker}
use Rattle.runs.specs.States.{Event, State, moved}
use Rattle.typed.specs.Events.{ReadAs, HasBytes}
use Rattle.typed.specs.Views.{said_listed}
use Rattle.engine.specs.ResolverStates.{state_of, IsSound}
use Rattle.engine.specs.Turns.{Turns}
use Rattle.engine.proofs.Stepped.{by_result, heard_is_sound, stepped, stepped_is_sound}
use Rattle.engine.proofs.machine.Core.step_typed.Goals as goal

pub handle_parsed-said-requires : goal.handle_parsed-said-requires
handle_parsed-said-requires g c =
    let was : State = state_of c.self.inside.state in
    let bytes : HasBytes c.args.event.now = c.parsed.ensures.bytes in
    let heard : state_of c.advance_clock.new.self ≡ moved was bytes.event =
    c.advance_clock.ensures ∙ ap (λ (n : ℕ). record was { clock = max was.clock n }) (c.moment.ensures.is bytes.event bytes.reads) in
    record {
      sound = heard_is_sound was (state_of c.advance_clock.new.self) bytes.event heard c.self.invariant;
      bytes = subst HasBytes (sym c.parsed.ensures.is) bytes;
    }

pub invariant_of-self : goal.invariant_of-self
invariant_of-self g c =
    let was : State = state_of c.self.inside.state in
    let mid : State = state_of c.advance_clock.new.self in
    let new : State = state_of c.handle_parsed-said.new.self in
    let bytes : HasBytes c.args.event.now = c.parsed.ensures.bytes in
    let event : Event = bytes.event in
    let reads = subst (ReadAs event) (sym c.parsed.ensures.is) bytes.reads in
    let heard : mid ≡ moved was event = c.advance_clock.ensures ∙ ap (λ (n : ℕ). record was { clock = max was.clock n }) (c.moment.ensures.is event bytes.reads) in
    by_result c.handle_parsed-said.result (λ a. Turns mid event (Some (said_listed a.first a.more_due)) new) (Turns mid event None new) (IsSound new)
    (c.handle_parsed-said.ensures.ok event reads) (c.handle_parsed-said.ensures.err event reads)
    (λ a h. stepped_is_sound was mid event heard new c.apart_law.ensures (Some (said_listed a.first a.more_due)) h c.self.invariant)
    (λ h. stepped_is_sound was mid event heard new c.apart_law.ensures None h c.self.invariant)

pub returns : goal.returns
returns g c =
    let was : State = c.args.self.now in
    let mid : State = state_of c.advance_clock.new.self in
    let new : State = state_of c.handle_parsed-said.new.self in
    let heard : (e : Event) → ReadAs e c.args.event.now → mid ≡ moved was e = λ e reads.
    c.advance_clock.ensures ∙ ap (λ (z : State). record z { clock = max z.clock c.moment.result }) c.self.view_is ∙ ap (λ (n : ℕ). record was { clock = max was.clock n }) (c.moment.ensures.is e reads) in
    record {
      ok = λ e reads.
          IfOk-weaker c.handle_parsed-said.result _ _ (λ a h. stepped was mid e (heard e reads) new c.apart_law.ensures (Some (said_listed a.first a.more_due)) h)
          (c.handle_parsed-said.ensures.ok e (subst (ReadAs e) (sym c.parsed.ensures.is) reads));
      err = λ e reads.
          on_err_weaker c.handle_parsed-said.result (stepped was mid e (heard e reads) new c.apart_law.ensures None) (c.handle_parsed-said.ensures.err e (subst (ReadAs e) (sym c.parsed.ensures.is) reads));
    }
