use Rattle.std.proofs.Common.{◌≡◌, take, map}
use Rattle.referral.specs.Made.{hinted}
use Rattle.referral.proofs.made.hinted_addresses.Given as goal

abbrev pub invariant-loop-hint : goal.invariant-loop-hint
invariant-loop-hint g l = l.addresses ≡ map hinted (take l.hint-index l.hints)
