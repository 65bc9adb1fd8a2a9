-- The hints behind decide.
use Rattle.std.proofs.Common.{◌≡◌, drop}
use Rattle.worlds.specs.Kept.{addresses}
use Rattle.worlds.specs.Rules.{has_bad_hint}
use Rattle.worlds.proofs.servers.has_bad_hint.Given as goal

abbrev pub invariant-loop-hint : goal.invariant-loop-hint
invariant-loop-hint g l = has_bad_hint l.hosts (addresses l.hints) ≡ has_bad_hint l.hosts (addresses (drop l.hint-index l.hints))
