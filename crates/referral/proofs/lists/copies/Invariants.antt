use Rattle.std.proofs.Common.{◌≡◌, take}
use Rattle.referral.proofs.lists.copies.Given as goal

abbrev pub invariant-loop-name : goal.invariant-loop-name
invariant-loop-name g l = l.items.items ≡ take l.name-index l.names
