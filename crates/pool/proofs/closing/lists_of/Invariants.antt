use Rattle.std.proofs.Common.{◌≡◌, map}
use Rattle.pool.proofs.closing.lists_of.Given as goal

abbrev pub invariant-loop-part : goal.invariant-loop-part
invariant-loop-part g l = map (λ v. v.items) l.lists.items ≡ map (λ k. k.lines) l.yielded
