use Rattle.classify.proofs.ReadMessages.{message_read}
use Rattle.classify.proofs.reading.read.Goals as goal

pub returns-in_ok-read_message-in-Ok : goal.returns-in_ok-read_message-in-Ok
returns-in_ok-read_message-in-Ok g c =
    message_read c.args.via c.args.bytes.now c.in-Ok.message c.in_ok-read_message-in-Ok.field-0 c.in-Ok.ensures.read c.in_ok-read_message-in-Ok.ensures

pub returns-in-Err : goal.returns-in-Err
returns-in-Err g c = λ m is. absurd (c.in-Err.ensures.refused m is)
