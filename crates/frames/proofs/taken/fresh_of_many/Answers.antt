use Rattle.std.proofs.Common.{ap, ◌∙◌}
use Rattle.frames.proofs.Seen.{seen_next_behind, old_left_out, new_put}
use Rattle.frames.proofs.taken.fresh_of_many.Goals as goal
use Rattle.frames.proofs.taken.fresh_of_many.Goals.{then-branch+in_ok-push, else-branch}

pub loop-address-preserved : goal.loop-address-preserved
loop-address-preserved g c = record {
  fresh = elim c.if-branch.branch [
    | then-branch+in_ok-push w ↦
        ap (λ v. v.items) w.fresh-is
        ∙ new_put c.args.known.now c.args.found.now c.loop-address.address-index _ c.loop-address.fresh.items c.loop-address-test.true c.loop-address.invariant.fresh
        c.loop-address.seen c.in_ok-insert.field-0 c.loop-address.invariant.seen (c.in_ok-insert.ensures {u = tt}).added w.push.new.self.items w.if-branch.true w.in_ok-push.ensures.items
    | else-branch w ↦
        ap (λ v. v.items) w.fresh-is
        ∙ old_left_out c.args.known.now c.args.found.now c.loop-address.address-index _ c.loop-address.fresh.items c.loop-address-test.true c.loop-address.invariant.fresh
        c.loop-address.seen c.in_ok-insert.field-0 c.loop-address.invariant.seen (c.in_ok-insert.ensures {u = tt}).added w.if-branch.false
  ];
  seen = seen_next_behind c.loop-address.seen c.insert.new.self c.args.known.now c.args.found.now c.loop-address.address-index _ c.loop-address-test.true c.loop-address.invariant.seen (c.in_ok-insert.ensures {u = tt}).updates.0;
}
