use Rattle.std.proofs.Common.{◌+◌, ◌++◌, ◌∙◌, append_assoc, ap, sym, get_or, drop, rules}
use Rattle.std.proofs.Output.{has_written_append}
use Rattle.std.proofs.lemmas.List.{at_drop_more}
use Rattle.config_report.specs.Shown.{shown_byte, shown_text}
use Rattle.config_report.proofs.shown.write_text.Goals as goal

pub loop-byte-preserved : goal.loop-byte-preserved
loop-byte-preserved g c = λ plain.
    let so_far = c.loop-byte.invariant plain in
    let text = c.args.text.now in
    let i = c.loop-byte.byte-index in (
      so_far.0 ++ shown_byte (get_or text i 0),
      has_written_append _ _ _ _ _ _ so_far.1 (search rules),
      append_assoc so_far.0 (shown_byte (get_or text i 0)) (shown_text (drop (i + 1) text))
          ∙ ap (λ x. so_far.0 ++ x) (sym (at_drop_more shown_text text i 0 (search rules)))
          ∙ so_far.2,
    )
