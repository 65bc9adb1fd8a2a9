use Rattle.server.proofs.context.Context.read_and_step.Goals as goal

pub returns-in_default : goal.returns-in_default
returns-in_default g c = rw c.in_default.is at c.in_ok-parsed.ensures

pub returns : goal.returns
returns g c = record { parsed = c.in-Some.parsed; reads = rw c.in-Some.is at c.in_ok-parsed.ensures; stepped = c.in_ok-actions.ensures.ok }
