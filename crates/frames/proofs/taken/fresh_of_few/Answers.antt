use Rattle.std.proofs.Common.{ap, ◌∙◌}
use Rattle.frames.proofs.Once.{found_known, found_there, found_new}
use Rattle.frames.proofs.taken.fresh_of_few.Goals as goal
use Rattle.frames.proofs.taken.fresh_of_few.Goals.{then-not-has_address+then-not-has_address-2+in_ok-push, else-not-has_address, else-not-has_address-via-then-not-has_address+else-not-has_address-2, else-not-has_address-via-else-not-has_address}

pub loop-address-preserved : goal.loop-address-preserved
loop-address-preserved g c = elim c.if-not-has_address.branch [
  | then-not-has_address+then-not-has_address-2+in_ok-push w ↦
      ap (λ v. v.items) w.fresh-is
      ∙ found_new c.args.known.now c.args.found.now c.loop-address.address-index _ c.loop-address.fresh.items c.loop-address-test.true c.loop-address.invariant
      w.deref.result.now w.push.new.self.items c.has_address.result w.has_address-then-not-has_address.result c.has_address.ensures w.if-not-has_address.true
      w.deref.ensures.value w.has_address-then-not-has_address.ensures w.if-not-has_address-2.true w.in_ok-push.ensures.items
  | else-not-has_address w ↦
      ap (λ v. v.items) w.fresh-is ∙ elim w.else-not-has_address.branch [
        | else-not-has_address-via-then-not-has_address+else-not-has_address-2 v ↦
            found_there c.args.known.now c.args.found.now c.loop-address.address-index _ c.loop-address.fresh.items c.loop-address-test.true c.loop-address.invariant
            v.deref.result.now c.has_address.result v.has_address-then-not-has_address.result c.has_address.ensures v.if-not-has_address.true
            v.deref.ensures.value v.has_address-then-not-has_address.ensures v.if-not-has_address-2.false
        | else-not-has_address-via-else-not-has_address v ↦
            found_known c.args.known.now c.args.found.now c.loop-address.address-index _ c.loop-address.fresh.items c.loop-address-test.true c.loop-address.invariant
            c.has_address.result c.has_address.ensures v.if-not-has_address.false
      ]
]
