-- What came of the run is told, or that no sockets are bound.
use Rattle.commands.proofs.serving.serve_at.Goals as goal

pub returns-in-Some : goal.returns-in-Some
returns-in-Some g c = rw c.in-Some.is (c.run.result, c.told.ensures)
