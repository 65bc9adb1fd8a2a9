-- Queries and outcomes without their allocators.
use Rattle.front.specs.declared.queries.Query.{Query}
use Rattle.front.specs.declared.queries.Request.{Request}
use Rattle.front.specs.declared.queries.Request.TheVariants as request
use Rattle.front.specs.declared.queries.End.{End}
use Rattle.front.specs.declared.queries.End.TheVariants as end
use Rattle.front.specs.declared.queries.Outcome.{Outcome}
use Rattle.front.specs.declared.queries.Outcome.TheVariants as outcome
use Rattle.runs.specs.States.{Plain}

abbrev pub plain : {A : Type 0} → Query A → Query Plain
plain q = record { start = q.start; name = q.name; kind = q.kind; echo = q.echo }

abbrev pub plain_asked : {A : Type 0} → Request A → Request Plain
plain_asked request.Drop = request.Drop
plain_asked (request.Refuse refusal start echo) = request.Refuse refusal start echo
plain_asked (request.Query q) = request.Query (plain q)

abbrev pub plain_end : {A : Type 0} → End A → End Plain
plain_end (end.Found set) = end.Found set
plain_end (end.NoData soa) = end.NoData soa
plain_end (end.NxDomain soa) = end.NxDomain soa
plain_end end.Outside = end.Outside

abbrev pub plain_outcome : {A : Type 0} → Outcome A → Outcome Plain
plain_outcome (outcome.Answer aa aliases last) = outcome.Answer aa aliases (plain_end last)
plain_outcome (outcome.Referral ns glue) = outcome.Referral ns glue
plain_outcome outcome.Refused = outcome.Refused
plain_outcome (outcome.Fail cause) = outcome.Fail cause
