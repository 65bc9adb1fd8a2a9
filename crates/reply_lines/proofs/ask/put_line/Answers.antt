-- The parts of the line, one behind the other.
use Rattle.std.proofs.Common.{◌≡◌, ◌∙◌, ap, ℕ, List, ◌++◌, codes, decimal, append_assoc, arith, string_bytes}
use Rattle.rdata.specs.Text.{ipv4_text}
use Rattle.message_grammar.specs.Messages.{Question, Message}
use Rattle.wire.specs.declared.via.Via.{Via}
use Rattle.reply_lines.specs.Asks.{ask_text, asked_text, way_word}
use Rattle.reply_lines.proofs.ask.put_line.Goals as goal

line_printed : (number : ℕ) (way : Via) (server : List ℕ) (listed asked : List Question) (word a b c d e f : List ℕ) → word ≡ way_word way → b ≡ a ++ word
    → c ≡ b ++ (codes " " ++ (decimal number ++ codes " ")) → d ≡ c ++ ipv4_text server → listed ≡ asked → e ≡ d ++ asked_text listed → f ≡ e ++ codes "\n"
    → f ≡ a ++ ask_text number way server asked
unfolding ask_text
line_printed number way server listed asked word a b c d e f is first second third same fourth last =
    rw (last, fourth, same, third, second, first, is) (simp append_assoc)

pub returns : goal.returns
returns g c =
    line_printed c.args.number c.args.way c.args.server.0 _ _ _ _ _ _ _ _ _ c.way_word.ensures c.in_ok-push_str.ensures.bytes c.in_ok-write.ensures.bytes
    c.in_ok-put_ipv4.ensures.ok (c.as_slice.ensures ∙ ap (λ (m : Message). m.questions) c.message.view_is) c.in_ok-put_questions.ensures
    (c.in_ok-push.ensures.bytes ∙ ap (λ (end : List ℕ). string_bytes c.put_questions.new.out ++ end) (c.in_ok-push.ensures.ascii (omega arith)))
