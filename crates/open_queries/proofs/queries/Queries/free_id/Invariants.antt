use Rattle.open_queries.proofs.Free.{AreTaken}
use Rattle.open_queries.proofs.queries.Queries.free_id.Given as goal

abbrev pub invariant-loop-tried : goal.invariant-loop-tried
invariant-loop-tried g l = AreTaken l.self l.socket l.server l.from l.tried
