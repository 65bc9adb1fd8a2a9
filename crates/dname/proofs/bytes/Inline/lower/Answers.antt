use Rattle.std.proofs.Common.{◌∙◌, List, ℕ, take, map, ap}
use Rattle.std.proofs.lemmas.List.{take-map}
use Rattle.std.specs.Char.{to_ascii_lowercase}
use Rattle.dname.proofs.bytes.Inline.lower.Goals as goal

pub returns : goal.returns
returns c = ap (λ (bs : List ℕ). take c.self.inside.size bs) c.make_ascii_lowercase.ensures.after ∙ take-map to_ascii_lowercase c.self.inside.size c.self.inside.bytes ∙ ap (map to_ascii_lowercase) c.self.view_is
