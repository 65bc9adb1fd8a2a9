use Rattle.message_grammar.specs.Messages.{encoding, folded_message}
use Rattle.message_grammar.proofs.Whole.{encoding_holds}
use Rattle.wire.proofs.MessagesRead.{message_read}
use Rattle.wire.proofs.laws.encoding_is_read_back.Goals as goal

pub returns : goal.returns
returns c = λ m is few. message_read (encoding m) (folded_message m) (encoding_holds m is few)
