-- The numbers and words of the refusals.
use Rattle.std.specs.Prelude.{ℕ, List, codes}
use Rattle.wire.specs.declared.error.WireError.{WireError}
use Rattle.wire.specs.declared.error.WireError.TheVariants.{Short, BadLabel, PointerNotEarlier, NameTooLong, BadRdataLength, BadRdataName, TrailingBytes, OverLimit, Memory}

abbrev pub number_of : WireError → ℕ
number_of Short = 1
number_of BadLabel = 2
number_of PointerNotEarlier = 3
number_of NameTooLong = 4
number_of BadRdataLength = 5
number_of BadRdataName = 6
number_of TrailingBytes = 7
number_of OverLimit = 8
number_of Memory = 9

abbrev pub fault_text : WireError → List ℕ
fault_text Short = codes "the message ends early"
fault_text BadLabel = codes "bad label"
fault_text PointerNotEarlier = codes "a pointer leads forward"
fault_text NameTooLong = codes "name over 255 bytes"
fault_text BadRdataLength = codes "bad length of RDATA"
fault_text BadRdataName = codes "bad name in RDATA"
fault_text TrailingBytes = codes "bytes behind the message"
fault_text OverLimit = codes "message over its limit"
fault_text Memory = codes "out of memory"
