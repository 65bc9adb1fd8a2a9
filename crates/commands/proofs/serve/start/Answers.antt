-- The line of the bound address is printed, or the fault of what was not bound.
use Rattle.std.proofs.Common.{refl, Ok, Err, string_bytes, inr}
use Rattle.commands.proofs.Servers.{some_so}
use Rattle.commands.proofs.serve.start.Goals as goal

pub returns-in-Ok-clause-run : goal.returns-in-Ok-clause-run
returns-in-Ok-clause-run g c = (Ok (string_bytes c.in-Ok.line), c.in-Ok.ensures.ok, c.go.ensures.run)

pub returns-in-Err-clause-run : goal.returns-in-Err-clause-run
returns-in-Err-clause-run g c = (Err c.in-Err.fault, c.in-Err.ensures.err, (c.no_server.ensures.reported, refl))

pub returns-in-Err-clause-starts : goal.returns-in-Err-clause-starts
returns-in-Err-clause-starts g c = inr (c.no_server.ensures.fails, c.no_server.ensures.none)

pub returns-in-Ok-clause-bound : goal.returns-in-Ok-clause-bound
returns-in-Ok-clause-bound g c = some_so c.go.result.server _ c.in-Ok.ensures.bound
