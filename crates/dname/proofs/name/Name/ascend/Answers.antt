use Rattle.std.proofs.Common.{rules}
use Rattle.dname.specs.Wire.{IsSplit}
use Rattle.dname.proofs.Split.{last_front, ascended, ascended_parent}
use Rattle.dname.proofs.name.Name.ascend.Goals as goal

pub invariant_of-self : goal.invariant_of-self
invariant_of-self g c =
    let s : IsSplit c.self.inside.bytes c.in-Some.field-0-0.now c.in-Some.rest.now = rw (← c.as_slice.ensures) c.in-Some.ensures in
    ascended _ _ _ _ c.self.invariant s (last_front _ _ _ _ _ s.bytes (search rules) c.keep_last.ensures)

pub returns-clause-above : goal.returns-clause-above
returns-clause-above g c =
    let s : IsSplit c.self.inside.bytes c.in-Some.field-0-0.now c.in-Some.rest.now = rw (← c.as_slice.ensures) c.in-Some.ensures in
    rw (← c.self.view_is) (ascended_parent _ _ _ _ s (last_front _ _ _ _ _ s.bytes (search rules) c.keep_last.ensures))
