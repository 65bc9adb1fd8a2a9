-- The zones are those that were passed, and hints and settings the file's.
use Rattle.std.proofs.Common.{rules}
use Rattle.server_start.proofs.Beginnings.{described, begun}
use Rattle.server_start.proofs.resolver.resolver_of.Goals as goal

pub returns-clause-is : goal.returns-clause-is
returns-clause-is g c =
    described _ c.args.config c.args.zones.items c.args.seed c.config.inside.hints.items (search rules) c.in-Some.settings (search rules) c.new.result c.new.ensures

pub returns-clause-begun : goal.returns-clause-begun
returns-clause-begun g c = begun _ c.args.zones.items c.config.inside.hints.items c.in-Some.settings c.new.result c.new.ensures
