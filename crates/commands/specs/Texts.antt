-- The texts that a source gives.
use Rattle.std.specs.Prelude.{◌≡◌, ℕ, List, Option, IfSome}

-- What is known to stand at a path stands there.
abbrev pub MayHold : Option (Option (List ℕ)) → Option (List ℕ) → Type 0
MayHold known text = IfSome known (λ held. held ≡ text)
