-- What is said of a line that is refused.
use Rattle.std.specs.Prelude.{ℕ, ◌-◌, cond, nat_eq, nat_lt, length, Option, Some, None, List, [], ◌∷◌, ◌++◌, codes, decimal}
use Rattle.text_lines.specs.Lines.{lines}
use Rattle.text_lines.specs.Texts.{stated_words}
use Rattle.text_lines.specs.declared.fault.LineKind.{LineKind}
use Rattle.text_lines.specs.declared.fault.LineError.{LineError}
use Rattle.masterfile.specs.declared.faults.FileError.{FileError}
use Rattle.config_report.specs.Sentences.{file_sentence, line_sentence, word_count}
use Rattle.config_report.specs.Shown.{shown_text}

-- The line of this number, counted from 1.
abbrev pub line_at : ℕ → List (List ℕ) → Option (List ℕ)
line_at n [] = None
line_at n (l ∷ ls) = cond (nat_lt 1 n) (line_at (n - 1) ls) (Some l)

-- The path, the number of the line, the line, and the sentence.
abbrev pub report_text : List ℕ → ℕ → List ℕ → List ℕ → List ℕ
report_text path n line sentence =
    shown_text path ++ codes ":" ++ decimal n ++ codes ": " ++ shown_text line ++ codes ": " ++ sentence ++ codes "\n"

abbrev pub no_listen_text : List ℕ → List ℕ
no_listen_text path = shown_text path ++ codes ": no line listen ADDRESS PORT says where to serve\n"

abbrev pub first_or_none : List (List ℕ) → List ℕ
first_or_none [] = []
first_or_none (w ∷ ws) = w

-- What is wrong with a line of a server's file.
abbrev pub line_sentence_of : List ℕ → LineKind → List ℕ
line_sentence_of line kind =
    let word = first_or_none (stated_words line) in line_sentence kind word (nat_eq (length (stated_words line)) (word_count word))

-- Behind the last line: that none says where to listen.
abbrev pub said_of_line : List ℕ → LineError → Option (List ℕ) → List ℕ
said_of_line path e None = no_listen_text path
said_of_line path e (Some line) = report_text path e.line line (line_sentence_of line e.kind)

abbrev pub line_report_text : List ℕ → List ℕ → LineError → List ℕ
line_report_text path text e = said_of_line path e (line_at e.line (lines text))

abbrev pub line_or_none : Option (List ℕ) → List ℕ
line_or_none None = []
line_or_none (Some line) = line

-- Of a zone file; the words are left out behind its last line.
abbrev pub file_report_text : List ℕ → List ℕ → FileError → List ℕ
file_report_text path text e = report_text path e.line (line_or_none (line_at e.line (lines text))) (file_sentence e.kind)
