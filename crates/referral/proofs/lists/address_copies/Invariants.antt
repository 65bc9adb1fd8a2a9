use Rattle.std.proofs.Common.{◌≡◌, take}
use Rattle.referral.proofs.lists.address_copies.Given as goal

abbrev pub invariant-loop-address : goal.invariant-loop-address
invariant-loop-address g l = l.items.items ≡ take l.address-index l.addresses
