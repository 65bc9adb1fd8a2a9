-- The links so far are aliases, and each led to the name of the next.
use Rattle.limits.specs.Limits.{max_aliases}
use Rattle.rdata.specs.Types.{type_number}
use Rattle.lookup.proofs.Following.{Following}
use Rattle.lookup.proofs.held.holds.Given as goal

abbrev pub invariant-aliases : goal.invariant-aliases
invariant-aliases g l = Following l.home l.now (type_number l.kind) (l.stores).cache l.name max_aliases l.link l.left

abbrev pub decreases-aliases : goal.decreases-aliases
decreases-aliases g l = l.left
