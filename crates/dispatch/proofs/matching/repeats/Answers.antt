use Rattle.std.proofs.Common.{rules, ◌≡◌}
use Rattle.wire.specs.declared.error.WireError.TheVariants.{Memory}
use Rattle.dispatch.proofs.Repeating.{accepted_repeats, judged, no_ask, no_reply, never, never_accepted}
use Rattle.dispatch.proofs.matching.repeats.Goals as goal

pub returns-in-Err : goal.returns-in-Err
returns-in-Err g c =
    let other : c.in-Err.field-0 ≡ Memory → ⊥ = search rules in
    let none = no_ask c.args.ask.now c.args.reply.now c.in-Err.field-0 other c.in-Err.ensures.refused in
    record { exact = never c.args.ask.now c.args.reply.now none; kept = never_accepted c.args.ask.now c.args.reply.now none }

pub returns-in-Ok-new-clause-exact : goal.returns-in-Ok-new-clause-exact
returns-in-Ok-new-clause-exact g c =
    judged c.args.ask.now c.args.reply.now c.in-Ok.asked c.in-Ok-new.reply c.repeats_message.result c.in-Ok.ensures.read c.in-Ok-new.ensures.read c.repeats_message.ensures

pub returns-in-Ok-new-clause-kept : goal.returns-in-Ok-new-clause-kept
returns-in-Ok-new-clause-kept g c = λ h.
    let both = judged c.args.ask.now c.args.reply.now c.in-Ok.asked c.in-Ok-new.reply c.repeats_message.result c.in-Ok.ensures.read c.in-Ok-new.ensures.read c.repeats_message.ensures in
    both.1 (accepted_repeats c.args.ask.now c.args.reply.now h)

pub returns : goal.returns
returns g c =
    let none = no_reply c.args.ask.now c.args.reply.now c.in-Err-new.ensures.refused in
    record { exact = never c.args.ask.now c.args.reply.now none; kept = never_accepted c.args.ask.now c.args.reply.now none }
