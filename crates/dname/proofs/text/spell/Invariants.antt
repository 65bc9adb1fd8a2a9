use Rattle.std.proofs.Common.{◌≡◌, length}
use Rattle.dname.specs.Draft.{empty_draft}
use Rattle.dname.specs.Text.{tokens, spelled}
use Rattle.dname.proofs.text.spell.Given as goal

abbrev pub invariant-tokens : goal.invariant-tokens
invariant-tokens g l = spelled l.builder (tokens l.rest) ≡ spelled empty_draft (tokens l.fn.text)

abbrev pub decreases-tokens : goal.decreases-tokens
decreases-tokens g l = length l.rest
