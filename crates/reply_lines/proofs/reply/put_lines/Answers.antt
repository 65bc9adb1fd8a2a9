-- The message's fields are those of its view.
use Rattle.std.proofs.Common.{◌∙◌, ap, ◌++◌, codes, string_bytes, List}
use Rattle.std.specs.List.{flat_map}
use Rattle.std.proofs.lemmas.Result.{on_ok_weaker}
use Rattle.rdata.specs.Records.{Record}
use Rattle.reply_lines.specs.Lines.{record_line}
use Rattle.reply_lines.proofs.Printed.{whole_printed}
use Rattle.reply_lines.proofs.reply.put_lines.Goals as goal

pub returns : goal.returns
returns g c =
    on_ok_weaker c.put_records-3.result (λ last. whole_printed c.args.client c.args.cause _ _ _ _ _ _ _ _ _ _ _ c.message.view_is c.in_ok-put_head.ensures
    (c.in_ok-put_records.ensures ∙ ap (λ (rs : List Record). string_bytes c.put_head.new.out ++ flat_map (record_line (codes "an")) rs) c.as_slice.ensures)
    (c.in_ok-put_records-2.ensures ∙ ap (λ (rs : List Record). string_bytes c.put_records.new.out ++ flat_map (record_line (codes "ns")) rs) c.as_slice-2.ensures)
    (last ∙ ap (λ (rs : List Record). string_bytes c.put_records-2.new.out ++ flat_map (record_line (codes "ar")) rs) c.as_slice-3.ensures))
    c.put_records-3.ensures
