-- The line of an ask of a server.
use Rattle.std.specs.Prelude.{◌≡◌, ℕ, Option, Some, None, List, ◌++◌, codes, decimal}
use Rattle.std.specs.List.{flat_map}
use Rattle.dname.specs.Text.{name_text}
use Rattle.rdata.specs.Text.{ipv4_text}
use Rattle.rdata.specs.Types.{type_by, type_word}
use Rattle.rdata.specs.declared.rtype.RType.{RType}
use Rattle.message_grammar.specs.Messages.{Question, Message, IsMessage}
use Rattle.wire.specs.declared.via.Via.{Via}
use Rattle.wire.specs.declared.via.Via.TheVariants.{Udp, Tcp}

-- The word that the line begins with.
abbrev pub way_word : Via → List ℕ
way_word Udp = codes "send"
way_word Tcp = codes "tcp"

-- The word of a type, and the number of one without a word.
abbrev pub word_or_number : ℕ → Option RType → List ℕ
word_or_number n None = decimal n
word_or_number n (Some t) = type_word t

abbrev pub kind_text : ℕ → List ℕ
kind_text n = word_or_number n (type_by n)

-- A name and a type.
unfoldable pub question_text : Question → List ℕ
question_text q = codes " " ++ name_text q.name ++ codes " " ++ kind_text q.qtype

-- What is asked: an ask has one question.
abbrev pub asked_text : List Question → List ℕ
asked_text questions = flat_map question_text questions

-- How it goes, its number, the server's address, and what is asked.
unfoldable pub ask_text : ℕ → Via → List ℕ → List Question → List ℕ
ask_text number way server questions = way_word way ++ codes " " ++ decimal number ++ codes " " ++ ipv4_text server ++ asked_text questions ++ codes "\n"

-- The bytes are a message, and its line stands behind the text before.
abbrev pub IsAskPrinted : List ℕ → ℕ → Via → List ℕ → List ℕ → List ℕ → Type 0
IsAskPrinted bytes number way server before printed =
    (m : Message) × IsMessage bytes m × (printed ≡ before ++ ask_text number way server m.questions)
