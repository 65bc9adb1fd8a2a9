-- The action that is written of an outcome, of a refusal, and of an ask: its bytes are the one encoding of its message.
use Rattle.std.specs.Prelude.{ℕ, Option, None}
use Rattle.message_grammar.specs.Messages.{Question, encoding}
use Rattle.wire.specs.declared.via.Via.{Via}
use Rattle.front.specs.Openings.{Opening}
use Rattle.front.specs.Replies.{reply_of, refusal_reply}
use Rattle.front.specs.declared.queries.Outcome.{Outcome}
use Rattle.front.specs.declared.queries.Refusal.{Refusal}
use Rattle.runs.specs.States.{Action, Reply, Plain, ClientQuery, Ask}
use Rattle.runs.specs.Messages.{asking_message, sending}

unfoldable pub replied : ClientQuery → Outcome Plain → Action
replied who o = Reply who.client who.way (encoding (reply_of who.way who.query o).0) (reply_of who.way who.query o).1

unfoldable pub refused : ℕ → Via → Refusal → Opening → Option Question → Action
refused client way refusal start echo = Reply client way (encoding (refusal_reply refusal start echo)) None

unfoldable pub asked : ℕ → Ask → Action
asked port a = sending port a a.path (encoding (asking_message a))
