use Rattle.std.proofs.Common.{◌≡◌, drop}
use Rattle.config.specs.Configs.{has_origin}
use Rattle.config.proofs.draft.is_taken.Given as goal

abbrev pub invariant-loop-local : goal.invariant-loop-local
invariant-loop-local g l = has_origin l.origin (drop l.local-index l.locals) ≡ has_origin l.origin l.locals
