-- The bytes are a message, so its lines are printed, and nothing stood before them.
use Rattle.std.proofs.Common.{◌∙◌, ap, ⊎_elim, List, ℕ, ◌++◌}
use Rattle.reply_lines.specs.Lines.{reply_text}
use Rattle.commands.proofs.answering.printed.Goals as goal

pub returns : goal.returns
returns g c =
    ⊎_elim (λ lines. (lines.0, lines.1, lines.2 ∙ ap (λ (before : List ℕ). before ++ reply_text 1 lines.0 c.args.cause) c.new-out.ensures.bytes))
    (λ none. absurd (none.0 c.requires.0 c.requires.1)) c.in_ok-put_reply_bytes.ensures.ok
