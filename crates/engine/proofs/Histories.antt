-- A history of the resolver is a run.
use Rattle.std.proofs.Common.{◌≡◌, ℕ, Some, None, Result, Ok, Err, IfOk, OnErr, List, [], ◌∷◌, refl, sym, ap, subst}
use Rattle.memory.specs.declared.Starved.{Starved}
use Rattle.book.specs.Histories.{Line, LeadsMachine}
use Rattle.events.specs.declared.event.Event.{Event}
use Rattle.events.specs.Views.{event_view}
use Rattle.runs.specs.States.{Event as EventSpec, Action, State, IsNew}
use Rattle.typed.specs.Events.{Parsed, ReadAs, HasBytes}
use Rattle.typed.specs.Views.{said_listed}
use Rattle.typed.specs.declared.action.TypedActions.{TypedActions}
use Rattle.engine.specs.Beginnings.{IsBegun, first_state}
use Rattle.engine.specs.Promises.{Steps, turn_of}
use Rattle.engine.specs.Histories.{Moves, out_of, IsRunOf, written_of, TypedMoves, IsTypedRunOf}

begun_is_new : (start : State) → IsBegun start → IsNew start.site start
begun_is_new start h =
    let made : start ≡ first_state h.zones h.hints h.settings = (h.is).is in
    record {
      site = refl;
      clock = ap (λ (z : State). z.clock) made;
      cache = ap (λ (z : State). (z.stores).cache) made;
      delegations = ap (λ (z : State). (z.stores).delegations) made;
      penalties = ap (λ (z : State). (z.stores).penalties) made;
      failures = ap (λ (z : State). (z.stores).failures) made;
      queries = ap (λ (z : State). z.queries) made;
      opened = ap (λ (z : State). z.opened) made;
      tcp_asks = ap (λ (z : State). z.tcp_asks) made;
      seeded = ((h.settings).seed, ap (λ (z : State). z.generator) made);
    }

module _ (A : Type 0) where
  step_by : (event : Event A) (result : Result (List Action) Starved) (s new : State) → Moves s event result new → Steps s (event_view event) (out_of result) new
  step_by event (Ok out) s new h = h
  step_by event (Err refused) s new h = h

  one_more : (e : Line (Event A) (List Action)) (older : List (Line (Event A) (List Action))) (start mid s : State) → IsRunOf A older start mid → Steps mid (event_view e.event) (out_of e.out) s
      → IsRunOf A (e ∷ older) start s
  one_more e older start mid s before steps = record {
    run = turn_of (event_view e.event) steps.served (out_of e.out) ∷ before.run;
    legal = (mid, before.legal, steps.step);
    first = before.first;
    shows = (refl, refl, before.shows);
  }

  pub history_is_run : (workers : ℕ) (start : State) (lines : List (Line (Event A) (List Action))) (s : State)
      → IsBegun start → LeadsMachine (Moves {A = A}) workers start lines s → IsRunOf A lines start s
  history_is_run workers start [] s begun same = record { run = []; legal = subst (λ (z : State). IsNew start.site z) same (begun_is_new start begun); first = sym same; shows = tt }
  history_is_run workers start (e ∷ older) s begun h =
      one_more e older start h.0 s (history_is_run workers start older h.0 begun h.1) (step_by e.event e.out h.0 s h.2)

module _ (A : Type 0) where
  one_more_typed : (e : Line Parsed (TypedActions A)) (older : List (Line Parsed (TypedActions A))) (start mid s : State) → IsTypedRunOf A older start mid → TypedMoves mid e.event e.out s → IsTypedRunOf A (e ∷ older) start s
  one_more_typed e older start mid s before (event, reads, steps) = record {
    run = turn_of event steps.served (written_of e.out) ∷ before.run;
    legal = (mid, before.legal, steps.step);
    first = before.first;
    shows = (reads, refl, before.shows);
  }

  pub typed_history_is_run : (workers : ℕ) (start : State) (lines : List (Line Parsed (TypedActions A))) (s : State)
      → IsBegun start → LeadsMachine (TypedMoves {A = A}) workers start lines s → IsTypedRunOf A lines start s
  typed_history_is_run workers start [] s begun same = record { run = []; legal = subst (λ (z : State). IsNew start.site z) same (begun_is_new start begun); first = sym same; shows = tt }
  typed_history_is_run workers start (e ∷ older) s begun h = one_more_typed e older start h.0 s (typed_history_is_run workers start older h.0 begun h.1) h.2

-- A step on an event that was read.
pub typed_step : {A : Type 0} (parsed : Parsed) (r : Result (TypedActions A) Starved) (s new : State) → HasBytes parsed
    → ((e : EventSpec) → ReadAs e parsed → IfOk r (λ a. Steps s e (Some (said_listed a.first a.more_due)) new)) → ((e : EventSpec) → ReadAs e parsed → OnErr r (Steps s e None new)) → TypedMoves s parsed r new
typed_step parsed (Ok a) s new bytes ok err = (bytes.event, bytes.reads, ok bytes.event bytes.reads)
typed_step parsed (Err refused) s new bytes ok err = (bytes.event, bytes.reads, err bytes.event bytes.reads)
