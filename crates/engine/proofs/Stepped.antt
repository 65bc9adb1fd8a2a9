-- A step by what becomes of its event once the clock is at its moment.
use Rattle.std.proofs.Common.{◌≡◌, Option, List, Ok, Err, Result, IfOk, OnErr, sym, subst}
use Rattle.runs.specs.States.{Event, Action, State, AreApart, moved}
use Rattle.runs.specs.Steps.{IsTurn}
use Rattle.laws.proofs.FollowedSearches.{turn_sought}
use Rattle.engine.specs.ResolverStates.{IsSound}
use Rattle.engine.specs.Turns.{Turns}
use Rattle.engine.specs.Promises.{Steps}
use Rattle.engine.proofs.Sound.{moved_is_sound, turn_is_sound}
use Rattle.engine.proofs.Promised.{steps}

-- What follows from either result.
pub by_result : {T E : Type 0} (r : Result T E) (P : T → Type 0) (Q C : Type 0) → IfOk r P → OnErr r Q → ((a : T) → P a → C) → (Q → C) → C
by_result (Ok a) P Q C ok err f g = f a ok
by_result (Err e) P Q C ok err f g = g err

module _ (was mid : State) (event : Event) (heard : mid ≡ moved was event) where
  pub heard_is_sound : IsSound was → IsSound mid
  heard_is_sound sound = subst (λ (z : State). IsSound z) (sym heard) (moved_is_sound was event sound)

  module _ (new : State) (apart : AreApart new.queries) (out : Option (List Action)) (turns : Turns mid event out new) where
    pub stepped : Steps was event out new
    stepped = steps was event turns.served out new (record { turn = subst (λ (z : State). IsTurn z event turns.served out new) heard turns.turn; apart = apart })

    pub stepped_is_sound : IsSound was → IsSound new
    stepped_is_sound sound =
        let here : IsSound mid = heard_is_sound sound in
        turn_is_sound mid here new apart (turn_sought mid event turns.served out new here.sought turns.turn) event turns.served out turns.turn
