use Rattle.std.proofs.Common.{◌∙◌, ◌++◌, ap, refl}
use Rattle.message_grammar.specs.Pieces.{packed_name, put_flat}
use Rattle.wire.proofs.Writing.{on_ok, name_whole, name_cut}
use Rattle.wire.proofs.writer.Writer.put_name.Goals as goal

pub returns-in_ok-extend_from_slice-in-None-clause-written : goal.returns-in_ok-extend_from_slice-in-None-clause-written
returns-in_ok-extend_from_slice-in-None-clause-written g c =
    on_ok c.note.result c.note.ensures.ok
    (λ n. name_whole (record { start = 0; bytes = c.self.inside.bytes.items; notes = c.self.inside.names }) c.args.name.now c.wire.result.now
    c.extend_from_slice.new.self.items c.note.new.self c.labels.result c.len-at.result c.longest.result c.well_formed_law.ensures refl (c.len-at.ensures ∙ c.self.inside.bytes.ok.0) c.longest.ensures.is c.in-None.is c.wire.ensures
    c.in_ok-extend_from_slice-in-None.ensures.items c.labels.ensures n ∙ ap (λ t. put_flat t (packed_name c.args.name.now)) c.self.view_is)

pub returns-in_ok-extend_from_slice-in-Some-2-clause-written : goal.returns-in_ok-extend_from_slice-in-Some-2-clause-written
returns-in_ok-extend_from_slice-in-Some-2-clause-written g c =
    on_ok c.note-in-Some.result c.note-in-Some.ensures.ok
    (λ n. name_cut (record { start = 0; bytes = c.self.inside.bytes.items; notes = c.self.inside.names }) c.args.name.now c.wire-in-Some.result.now c.split_at.result.0.now
    c.extend_from_slice-in-Some.new.self.items c.extend_from_slice-in-Some-2.new.self.items c.note-in-Some.new.self c.len-at.result c.longest.result c.in-Some.found c.well_formed_law.ensures refl (c.len-at.ensures ∙ c.self.inside.bytes.ok.0)
    c.longest.ensures.is c.in-Some.is c.wire-in-Some.ensures c.split_at.ensures.front c.in_ok-extend_from_slice-in-Some.ensures.items
    (c.in_ok-extend_from_slice-in-Some-2.ensures.items ∙ ap (λ p. c.extend_from_slice-in-Some.new.self.items ++ p) c.pointer_to.ensures) n
    ∙ ap (λ t. put_flat t (packed_name c.args.name.now)) c.self.view_is)
