-- A message in words: its header, then a line for each question and record.
use Rattle.std.specs.Prelude.{ℕ, Bool, cond, List, [], ◌++◌, codes, decimal}
use Rattle.std.specs.List.{flat_map}
use Rattle.dname.specs.Text.{name_text}
use Rattle.rdata.specs.Records.{Record}
use Rattle.rdata.specs.Text.{record_text}
use Rattle.message_grammar.specs.Messages.{Header, Question, Message}

-- A word behind a space, where its flag is set.
unfoldable pub flag_text : Bool → List ℕ → List ℕ
flag_text set word = cond set (codes " " ++ word) []

unfoldable pub header_text : Header → List ℕ
header_text h =
    codes "id " ++ decimal h.id ++ codes " opcode " ++ decimal h.opcode ++ codes " rcode " ++ decimal h.rcode ++ flag_text h.qr (codes "qr")
    ++ flag_text h.aa (codes "aa") ++ flag_text h.tc (codes "tc") ++ flag_text h.rd (codes "rd") ++ flag_text h.ra (codes "ra")

abbrev pub question_text : Question → List ℕ
question_text q = name_text q.name ++ codes " class " ++ decimal q.qclass ++ codes " type " ++ decimal q.qtype

unfoldable pub question_line : Question → List ℕ
question_line q = codes "\n  qd " ++ question_text q

unfoldable pub record_line : List ℕ → Record → List ℕ
record_line section r = codes "\n  " ++ section ++ codes " " ++ record_text r

abbrev pub message_text : Message → List ℕ
message_text m =
    header_text m.header ++ flat_map question_line m.questions ++ flat_map (record_line (codes "an")) m.answer
    ++ flat_map (record_line (codes "ns")) m.authority ++ flat_map (record_line (codes "ar")) m.additional
