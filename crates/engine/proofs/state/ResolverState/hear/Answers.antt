use Rattle.std.proofs.Common.{rules}
use Rattle.classify.specs.Views.{reading_view}
use Rattle.engine.specs.ResolverStates.{state_of}
use Rattle.engine.specs.Replies.{alone}
use Rattle.engine.proofs.Called.{at_err}
use Rattle.engine.proofs.Heard.{is_passed, is_served, is_lost}
use Rattle.engine.proofs.state.ResolverState.hear.Goals as goal

pub go_on_by_reply-requires : goal.go_on_by_reply-requires
go_on_by_reply-requires g c = record {
  sound = c.requires.sound;
  there = c.requires.there;
  read = c.requires.read;
  answers = λ q one. (c.is_answered.ensures q one).0 (search rules);
}

pub returns-then-not-is_answered-clause-ok : goal.returns-then-not-is_answered-clause-ok
returns-then-not-is_answered-clause-ok g c = λ event way m reads carries.
    is_passed (state_of c.args.self.now) c.args.number event way m (reading_view c.args.reading.now) reads carries c.requires.there.0 c.requires.there.1
    (λ is. let said = (c.is_answered.ensures c.requires.there.0 c.requires.there.1).1 is in search rules)

pub returns-clause-ok : goal.returns-clause-ok
returns-clause-ok g c = λ event way m reads carries.
    is_served (state_of c.args.self.now) c.args.number event way m (reading_view c.args.reading.now) reads carries c.server_of-server.result c.server_of-server.ensures (λ q one. (c.is_answered.ensures q one).0 (search rules))
    (state_of c.go_on_by_reply.new.self) (alone c.in_ok-go_on_by_reply.field-0) (c.in_ok-go_on_by_reply.ensures.ok way m reads)

pub returns-in_err-go_on_by_reply-clause-err : goal.returns-in_err-go_on_by_reply-clause-err
returns-in_err-go_on_by_reply-clause-err g c = λ event way m reads carries.
    at_err _
    (is_lost (state_of c.args.self.now) c.args.number event way m (reading_view c.args.reading.now) reads carries c.server_of-server.result c.server_of-server.ensures (λ q one. (c.is_answered.ensures q one).0 (search rules))
    (state_of c.go_on_by_reply.new.self) (c.in_err-go_on_by_reply.ensures.err way m reads))
