use Rattle.std.proofs.Common.{◌+◌, ◌++◌, ◌∙◌, append_assoc, ap, sym, get_or, drop, rules}
use Rattle.std.proofs.Output.{has_written_append}
use Rattle.std.proofs.lemmas.List.{at_drop_more}
use Rattle.dname.specs.Text.{byte_text, label_text}
use Rattle.dname.proofs.text.write_label.Goals as goal

pub loop-byte-preserved : goal.loop-byte-preserved
loop-byte-preserved g c = λ plain.
    let so_far = c.loop-byte.invariant plain in
    let label = c.args.label.now in
    let i = c.loop-byte.byte-index in (
      so_far.0 ++ byte_text (get_or label i 0),
      has_written_append _ _ _ _ _ _ so_far.1 (search rules),
      append_assoc so_far.0 (byte_text (get_or label i 0)) (label_text (drop (i + 1) label))
          ∙ ap (λ x. so_far.0 ++ x) (sym (at_drop_more label_text label i 0 (search rules)))
          ∙ so_far.2,
    )
