use Rattle.server.specs.Domains.{above}
use Rattle.server.proofs.Climbs.{IsPassed}
use Rattle.server.proofs.domain.domain_of.Given as goal

abbrev pub invariant-loop : goal.invariant-loop
invariant-loop l = IsPassed l.counter (above l.name) l.domain
