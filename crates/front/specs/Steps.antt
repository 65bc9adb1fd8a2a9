-- The next step of a chain of aliases, by a look-up.
use Rattle.std.specs.Prelude.{◌≡◌}
use Rattle.zone.specs.Links.{Alias}
use Rattle.zone.specs.Look.{Local, Linked}
use Rattle.front.specs.Chains.{IsEndAt}
use Rattle.front.specs.declared.follow.Step.{Step}
use Rattle.front.specs.declared.follow.Step.TheVariants.{Onward, Ended}

abbrev pub IsStep : {A : Type 0} → Local → Step A → Type 0
IsStep found (Onward r) = found ≡ Linked (Alias r)
IsStep found (Ended end) = IsEndAt found end
