-- Stores where memory runs out in a look-up.
use Rattle.std.specs.Prelude.{◌≡◌, ℕ, ◌⊎◌}
use Rattle.dname.specs.Labels.{Name}
use Rattle.cache.specs.Cached.{Question}
use Rattle.resolution.specs.Jobs.{Stores}
use Rattle.resolution.specs.Stops.{after_look_up}
use Rattle.lookup.specs.Views.{after_best}

-- The question was looked up in them, or it was not.
abbrev pub IsAskedInPart : Question → ℕ → Stores → Stores → Type 0
IsAskedInPart a now old new = (new ≡ old) ⊎ (new ≡ after_look_up a now old)

-- The deepest cut was sought in them, or it was not.
abbrev pub IsBestInPart : Name → ℕ → Stores → Stores → Type 0
IsBestInPart n now old new = (new ≡ old) ⊎ (new ≡ after_best old n now)
