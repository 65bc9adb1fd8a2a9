use Rattle.std.proofs.Common.{refl}
use Rattle.engine.proofs.Beginning.{first_is_sound, catalog_refused}
use Rattle.engine.specs.Beginnings.{IsMade}
use Rattle.engine.proofs.machine.Core.new.Goals as goal

pub invariant_of-result : goal.invariant_of-result
invariant_of-result g c = first_is_sound _ c.in-Some.ensures.0.some_sockets refl c.new.ensures

pub returns-in_err-home : goal.returns-in_err-home
returns-in_err-home g c =
    catalog_refused (IsMade c.args.config.local.items c.args.config.hints.items c.args.config.settings) c.from_residual.result c.in_err-home.field-0.0 c.args.config.settings
    c.args.config.local.items c.from_residual.ensures.1 (c.in_err-home.ensures {u = tt}) c.in-Some.ensures.0
