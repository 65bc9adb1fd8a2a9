use Rattle.std.proofs.Common.{◌∙◌, ap, refl}
use Rattle.message_grammar.specs.Pieces.{asked_name, put_flat}
use Rattle.wire.proofs.Writing.{on_ok, name_asked}
use Rattle.wire.proofs.writer.Writer.put_spelling.Goals as goal

pub returns-clause-written : goal.returns-clause-written
returns-clause-written g c =
    on_ok c.note.result c.note.ensures.ok
    (λ n. name_asked (record { start = 0; bytes = c.self.inside.bytes.items; notes = c.self.inside.names }) c.args.spelling.now c.name-name.result.now c.wire.result.now c.extend_from_slice.new.self.items
    c.note.new.self c.labels.result c.len-at.result c.well_formed_law-2.ensures c.name-name.ensures refl (c.len-at.ensures ∙ c.self.inside.bytes.ok.0) c.wire.ensures.is
    c.in_ok-extend_from_slice.ensures.items c.labels.ensures n ∙ ap (λ t. put_flat t (asked_name c.args.spelling.now)) c.self.view_is)
