-- The one action of a step, among all that goes out.
use Rattle.std.specs.Prelude.{Option, Some, None, List, [], ◌∷◌}
use Rattle.runs.specs.States.{Action}
use Rattle.typed.specs.declared.action.TypedAction.{TypedAction}
use Rattle.typed.specs.Views.{said_view}

abbrev pub alone : {A : Type 0} → TypedAction A → List Action
alone a = said_view a ∷ []

abbrev pub if_any : {A : Type 0} → Option (TypedAction A) → List Action
if_any None = []
if_any (Some a) = alone a
