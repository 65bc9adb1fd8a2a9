use Rattle.std.proofs.Common.{◌≡◌, ◌∷◌, length}
use Rattle.master_lexer.specs.Views.{lead_of}
use Rattle.masterfile.specs.Files.{read_from, read_lines}
use Rattle.masterfile.proofs.Fronts.{with_front}
use Rattle.masterfile.proofs.files.read_block.Given as goal

abbrev pub invariant-entries : goal.invariant-entries
invariant-entries g l =
    with_front l.records (read_from l.context (record { line = l.place; lead = lead_of l.lead; words = l.words.words } ∷ l.words.later))
    ≡ read_lines l.fn.origin l.fn.line l.fn.text

abbrev pub decreases-entries : goal.decreases-entries
decreases-entries g l = length l.words.later
