use Rattle.std.proofs.Common.{◌∙◌}
use Rattle.dname.proofs.Under.{under_step, end_step}
use Rattle.dname.proofs.walk.tail.Goals as goal

pub loop-after-preserved : goal.loop-after-preserved
loop-after-preserved c = record {
  form = c.in-Some.ensures.wire;
  end = end_step c.args.bytes.now c.loop-after.rest.now c.in-Some.field-0-0.now c.in-Some.after.now c.loop-after.invariant.end c.in-Some.ensures;
  under = λ n e. c.loop-after.invariant.under n e ∙ under_step c.loop-after.rest.now c.in-Some.field-0-0.now c.in-Some.after.now n c.args.size c.loop-after.invariant.form c.in-Some.ensures e c.if-rest-size.false;
}
