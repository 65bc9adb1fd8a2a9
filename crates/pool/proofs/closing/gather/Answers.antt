use Rattle.std.proofs.Common.{rules}
use Rattle.pool.proofs.Parts.{same_lists, closed}
use Rattle.pool.proofs.closing.gather.Goals as goal

pub returns-clause-closes : goal.returns-clause-closes
returns-clause-closes g c =
    closed g.M.Machine.moves g.M.Machine.begins c.args.book c.args.kept.items _ (c.is_whole.ensures.0 (search rules)) c.in_ok-history.ensures.tail
    c.in_ok-history.ensures.whole (search rules)
    (same_lists _ _ _ _ c.deref-2.ensures.value c.deref-3.ensures.value (c.are_parts.ensures.0 (search rules)))
