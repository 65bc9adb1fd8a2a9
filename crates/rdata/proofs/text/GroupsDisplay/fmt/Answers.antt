-- Eight groups, written at once.
use Rattle.std.proofs.Common.{◌≡◌, ℕ, List, ◌++◌, append_assoc, get_or}
use Rattle.std.proofs.Output.{has_written_of_eq}
use Rattle.rdata.specs.Text.{group_text, next_group_text}
use Rattle.rdata.proofs.text.GroupsDisplay.fmt.Goals as goal

joined : (a b c d e f g h : List ℕ) → a ++ (b ++ (c ++ (d ++ (e ++ (f ++ (g ++ h)))))) ≡ a ++ b ++ c ++ d ++ e ++ f ++ g ++ h
joined a b c d e f g h = simp append_assoc

pub returns-clause-writes : goal.returns-clause-writes
returns-clause-writes g c = λ plain ok.
    let first = λ (i j : ℕ). group_text (get_or c.args.self.now.0 i 0) (get_or c.args.self.now.0 j 0) in
    let next = λ (i j : ℕ). next_group_text (get_or c.args.self.now.0 i 0) (get_or c.args.self.now.0 j 0) in
    has_written_of_eq _ _ _ _ _ (joined (first 0 1) (next 2 3) (next 4 5) (next 6 7) (next 8 9) (next 10 11) (next 12 13) (next 14 15)) (c.write.ensures.writes plain ok)
