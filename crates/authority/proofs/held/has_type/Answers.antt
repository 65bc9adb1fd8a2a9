use Rattle.std.proofs.Common.{◌∙◌, ap}
use Rattle.std.specs.Prelude.{is_some}
use Rattle.rdata.specs.Types.{type_number}
use Rattle.zone.specs.Look.{is_type}
use Rattle.authority.proofs.Walks.{found_any}
use Rattle.authority.proofs.held.has_type.Goals as goal

pub returns-in-Some : goal.returns-in-Some
returns-in-Some g c = ap is_some c.in-Some.ensures ∙ found_any (is_type (type_number c.args.kind)) c.args.held.now

pub returns-in-None : goal.returns-in-None
returns-in-None g c = ap is_some c.in-None.ensures ∙ found_any (is_type (type_number c.args.kind)) c.args.held.now
