-- The sockets are not bound, or no resolver is made.
use Rattle.std.proofs.lemmas.Result.{IfErr-weaker}
use Rattle.commands.proofs.Checks.{unbound_told, unmade_told}
use Rattle.commands.proofs.check_config.made.Goals as goal

pub returns-in-Ok-clause-err : goal.returns-in-Ok-clause-err
returns-in-Ok-clause-err g c = IfErr-weaker c.bound.result _ _ (λ r h. unbound_told c.args.config _ _ h) c.bound.ensures.err

pub returns-in-Err-clause-err : goal.returns-in-Err-clause-err
returns-in-Err-clause-err g c = unmade_told c.args.config c.in-Err.fault c.in-Err.ensures.err _ _ c.unmade.ensures
