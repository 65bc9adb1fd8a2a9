use Rattle.std.proofs.Common.{rules}
use Rattle.events.specs.Plain.{plain}
use Rattle.runs.specs.States.{State}
use Rattle.engine.specs.ResolverStates.{state_of}
use Rattle.engine.proofs.AtOnce.{known_at, answered_now, gone_now}
use Rattle.engine.proofs.state.ResolverState.answer_now.Goals as goal

pub returns-in-Some-Ok : goal.returns-in-Some-Ok
returns-in-Some-Ok g c =
    let s : State = state_of c.args.self.now in
    let asked = plain c.args.query.now in
    let found = rw c.in-Some-Ok.field-0-is at c.in-Some-Ok.ensures in
    let known = known_at s asked c.in-Some-Ok.last c.answer_query.new.stores c.requires.sound (rw c.deref-asked.ensures at found) in
    answered_now s c.args.client c.args.way asked c.in-Some-Ok.last c.answer_query.new.stores c.requires.sound (search rules) known c.reply_with.result c.reply_with.ensures

pub returns-in-Some-Err : goal.returns-in-Some-Err
returns-in-Some-Err g c =
    let s : State = state_of c.args.self.now in
    let asked = plain c.args.query.now in
    let found = rw c.in-Some-Err.field-0-is at c.in-Some-Err.ensures in
    let known = known_at s asked found.0 c.answer_query.new.stores c.requires.sound (rw c.deref-asked.ensures at found.1) in
    gone_now s c.args.client c.args.way asked found.0 c.answer_query.new.stores c.requires.sound (search rules) known c.in-Some-Err.starved
