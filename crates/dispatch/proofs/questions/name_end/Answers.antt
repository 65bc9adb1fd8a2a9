use Rattle.std.proofs.Common.{rules, ◌≡◌, ◌∙◌, ap, ◌<◌, ◌+◌, ℕ, arith, subst, Some, None, length, get_or}
use Rattle.std.specs.Prelude.{slice_get}
use Rattle.std.proofs.lemmas.Option.{slice_get-get_or, slice_get_past}
use Rattle.dispatch.proofs.Naming.{Led, led_on, is_same, ends_there, ends_nowhere, ends_too_late}
use Rattle.dispatch.proofs.questions.name_end.Goals as goal

pub returns-then-size-eq0-clause-is : goal.returns-then-size-eq0-clause-is
returns-then-size-eq0-clause-is c =
    let there = slice_get-get_or c.args.message.now c.loop-at.at 0 c.if-at-message.true ∙ ap Some c.if-size-eq0.true in
    ends_there c.args.message.now c.loop-at.at c.loop-at.invariant.1 there (search rules)

pub returns-then-size-gt63-clause-is : goal.returns-then-size-gt63-clause-is
returns-then-size-gt63-clause-is c =
    let size = get_or c.args.message.now c.loop-at.at 0 in
    let there = slice_get-get_or c.args.message.now c.loop-at.at 0 c.if-at-message.true in
    let long : 63 < size = search rules in
    ends_nowhere c.args.message.now c.loop-at.at c.loop-at.invariant.1
    (λ b some short. absurd (omega (arith, is_same c.args.message.now c.loop-at.at b size some there, long, short)))

pub loop-at-preserved : goal.loop-at-preserved
loop-at-preserved c =
    let size = get_or c.args.message.now c.loop-at.at 0 in
    let there = slice_get-get_or c.args.message.now c.loop-at.at 0 c.if-at-message.true in
    let some : 0 < size = search rules in
    let short : size < 64 = search rules in
    let led = led_on c.args.message.now c.loop-at.at size c.loop-at.invariant.1 there some short in
    let is : c.from.result ≡ size = search rules in
    let next : c.loop-at.at + 1 + size ≡ c.loop-at.at + (1 + c.from.result) = omega (arith, is) in
    (omega (arith, c.loop-at.invariant.0), subst (Led c.args.message.now) next led)

pub returns-else-at-message-clause-is : goal.returns-else-at-message-clause-is
returns-else-at-message-clause-is c =
    let none = slice_get_past c.args.message.now c.loop-at.at (search rules) in
    ends_nowhere c.args.message.now c.loop-at.at c.loop-at.invariant.1 (λ b some short. absurd (cc))

pub returns-after-loop-at-clause-is : goal.returns-after-loop-at-clause-is
returns-after-loop-at-clause-is c = ends_too_late c.args.message.now c.loop-at.at c.loop-at.invariant.1 (search rules)
