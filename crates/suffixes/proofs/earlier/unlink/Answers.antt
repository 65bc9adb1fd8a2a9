use Rattle.std.proofs.Common.{sym, subst, ℕ, ◌+◌, List}
use Rattle.suffixes.proofs.Unlinks.{AreUnlinked, read_at, size_is, one_unlinked, one_passed}
use Rattle.suffixes.proofs.earlier.unlink.Goals.{then-note-lt-SIZES, else-note-lt-SIZES}
use Rattle.suffixes.proofs.earlier.unlink.Goals as goal

pub loop-note-preserved : goal.loop-note-preserved
loop-note-preserved c =
    let notes = c.args.notes.now in
    let at = c.loop-note.note-index in
    let is = size_is notes at c.loop-note-test.true in
    elim c.if-note-lt-SIZES.branch [
      | then-note-lt-SIZES w ↦ subst (λ (firsts : List ℕ). AreUnlinked notes c.args.firsts.now firsts (at + 1)) (sym w.firsts-is)
          (one_unlinked notes c.args.firsts.now c.loop-note.firsts at (read_at notes at) c.loop-note.invariant is w.if-note-lt-SIZES.true)
      | else-note-lt-SIZES w ↦ subst (λ (firsts : List ℕ). AreUnlinked notes c.args.firsts.now firsts (at + 1)) (sym w.firsts-is)
          (one_passed notes c.args.firsts.now c.loop-note.firsts at (read_at notes at) c.loop-note.invariant is w.if-note-lt-SIZES.false)
    ]
