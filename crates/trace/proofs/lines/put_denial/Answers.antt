-- The word, and the zone behind it.
use Rattle.std.proofs.Common.{◌≡◌, ℕ, List, ◌++◌, codes, append_assoc}
use Rattle.dname.specs.Labels.{Name}
use Rattle.dname.specs.Text.{name_text}
use Rattle.trace.specs.Lines.{denial_text}
use Rattle.trace.proofs.lines.put_denial.Goals as goal

printed : (word : List ℕ) (zone : Name) (a b c : List ℕ) → b ≡ a ++ word → c ≡ b ++ (codes " of the zone " ++ name_text zone) → c ≡ a ++ denial_text word zone
unfolding denial_text
printed word zone a b c first second = rw (second, first) (simp append_assoc)

pub returns : goal.returns
returns g c = printed c.args.word.now c.args.zone.now _ _ _ c.in_ok-push_str.ensures.bytes c.in_ok-write.ensures.bytes
