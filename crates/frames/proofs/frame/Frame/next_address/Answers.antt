use Rattle.std.proofs.Common.{IfSome, Contains, subst}
use Rattle.frames.proofs.Steps.{next_member}
use Rattle.frames.proofs.frame.Frame.next_address.Goals as goal

pub returns-clause-member : goal.returns-clause-member
returns-clause-member g c =
    subst (λ f. IfSome c.next.result (Contains f.addresses)) c.self.view_is (next_member c.self.inside.plan c.self.inside.addresses.items c.next.result c.next.ensures.value c.self.invariant.1)
