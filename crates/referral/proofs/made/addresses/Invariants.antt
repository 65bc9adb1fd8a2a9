use Rattle.std.proofs.Common.{◌≡◌, take}
use Rattle.referral.specs.Made.{addresses_in}
use Rattle.referral.proofs.made.addresses.Given as goal

abbrev pub invariant-loop-given : goal.invariant-loop-given
invariant-loop-given g l = l.addresses ≡ addresses_in (take l.given-index l.glue)
