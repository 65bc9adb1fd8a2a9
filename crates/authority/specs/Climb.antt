-- The records that a look-up over a list of records picks.
use Rattle.std.specs.Prelude.{ℕ, Bool, ◌&&◌, List, [], ◌∷◌, filter}
use Rattle.std.specs.List.{list_any}
use Rattle.dname.specs.Labels.{star, is_under}
use Rattle.rdata.specs.Records.{Record}
use Rattle.rdata.specs.Sets.{is_repeat}
use Rattle.authority.specs.declared.plain.Whose.{Whose}
use Rattle.authority.specs.declared.plain.Whose.TheVariants.{Own, Wildcard}
use Rattle.zone.specs.Look.{is_owned, is_type}

-- The name itself, or the wildcard right under it.
abbrev pub target : Whose → List (List ℕ) → List (List ℕ)
target Own n = n
target Wildcard n = star ∷ n

-- A record of that owner and type.
abbrev pub is_picked : List (List ℕ) → ℕ → Record → Bool
is_picked n t r = is_owned n r && is_type t r

abbrev pub picked : List (List ℕ) → ℕ → List Record → List Record
picked n t rs = filter (is_picked n t) rs

abbrev pub has_glue : Record → List Record → Bool
has_glue r rs = list_any (λ (s : Record). is_repeat s r) rs

-- Some owner is at or under the name.
abbrev pub has_under : List (List ℕ) → List Record → Bool
has_under n rs = list_any (λ (r : Record). is_under r.owner n) rs

-- The labels behind the first one.
abbrev pub above : List (List ℕ) → List (List ℕ)
above [] = []
above (l ∷ ls) = ls
