use Rattle.std.proofs.Common.{◌∙◌, ap, refl}
use Rattle.message_grammar.specs.Pieces.{asked_name, put_flat}
use Rattle.wire.proofs.Writing.{on_ok, name_asked, name_folded}
use Rattle.wire.proofs.writer.Writer.put_asked.Goals as goal

pub returns-clause-written : goal.returns-clause-written
returns-clause-written g c =
    on_ok c.note.result c.note.ensures.ok
    (λ n. name_asked (record { start = 0; bytes = c.self.inside.bytes.items; notes = c.self.inside.names }) c.args.name.now c.args.name.now c.wire.result.now c.extend_from_slice.new.self.items
    c.note.new.self c.labels.result c.len-at.result c.well_formed_law.ensures (name_folded c.args.name.now c.well_formed_law.ensures.labels) refl (c.len-at.ensures ∙ c.self.inside.bytes.ok.0) c.wire.ensures
    c.in_ok-extend_from_slice.ensures.items c.labels.ensures n ∙ ap (λ t. put_flat t (asked_name c.args.name.now)) c.self.view_is)
