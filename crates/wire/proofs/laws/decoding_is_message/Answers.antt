use Rattle.wire.proofs.MessagesRead.{are_small, message_there, message_read}
use Rattle.wire.proofs.laws.decoding_is_message.Goals as goal

pub returns-clause-read : goal.returns-clause-read
returns-clause-read c = λ bytes m are h. message_there bytes m (are_small bytes are) h

pub returns-clause-found : goal.returns-clause-found
returns-clause-found c = message_read
