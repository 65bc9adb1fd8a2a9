use Rattle.std.proofs.Common.{◌≡◌}
use Rattle.wire.specs.Entries.{section_from}
use Rattle.wire.specs.Views.{listed, IsSection}
use Rattle.wire.proofs.lent.Walk.next.Given as goal

abbrev pub invariant-loop-self : goal.invariant-loop-self
invariant-loop-self l =
    IsSection l.self-inside.bytes.now l.self-inside.ends.now l.self-inside.left l.self-inside.place
    × (listed (section_from l.self-inside.left l.self-inside.bytes.now l.self-inside.place) ≡ listed (section_from l.initial.self-inside.left l.initial.self-inside.bytes.now l.initial.self-inside.place))

abbrev pub decreases-loop-self : goal.decreases-loop-self
decreases-loop-self l = l.self-inside.left
