-- The laws about reading that the functions of this crate state.
use Rattle.std.specs.Prelude.{◌≡◌, ℕ, ◌≤◌, Ok, List, length}
use Rattle.dname.specs.Spelling.{AreBytes}
use Rattle.message_grammar.specs.Messages.{Message, IsWritable, IsMessage, encoding, folded_message}
use Rattle.wire.specs.Entries.{message_of}

-- A message that is read is the one that the bytes are.
abbrev pub ReadIsMessage : Type 0
ReadIsMessage = (bytes : List ℕ) (m : Message) → AreBytes bytes → message_of bytes ≡ Ok m → IsMessage bytes m

-- A message that bytes are is read.
abbrev pub MessageIsRead : Type 0
MessageIsRead = (bytes : List ℕ) (m : Message) → IsMessage bytes m → message_of bytes ≡ Ok m

-- An encoding of at most 65,535 bytes is read back as the message that was encoded, its questions' names in lower case.
abbrev pub EncodingIsReadBack : Type 0
EncodingIsReadBack = (m : Message) → IsWritable m → length (encoding m) ≤ 65535 → message_of (encoding m) ≡ Ok (folded_message m)
