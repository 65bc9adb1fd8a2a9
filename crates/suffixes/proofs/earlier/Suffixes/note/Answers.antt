use Rattle.std.proofs.Common.{◌≡◌, ◌++◌, ◌∙◌, length, rules}
use Rattle.suffixes.proofs.Steps.{last_name, name_is_wire, noted_behind, put_longer}
use Rattle.suffixes.proofs.earlier.Suffixes.note.Goals as goal

pub note_labels-requires-clause-wire : goal.note_labels-requires-clause-wire
note_labels-requires-clause-wire g c =
    let names : c.deref.result.now ≡ c.self.inside.names.items ++ c.wire-bytes.result.now = c.deref.ensures.value ∙ c.in_ok-extend_from_slice.ensures.items in
    let start : c.len-start.result ≡ length c.self.inside.names.items = search rules in
    name_is_wire c.args.name.now _ c.well_formed_law.ensures (last_name c.self.inside.names.items _ _ _ names start ∙ c.wire-bytes.ensures)

pub returns-clause-ok : goal.returns-clause-ok
returns-clause-ok g c =
    let names : c.deref.result.now ≡ c.self.inside.names.items ++ c.wire-bytes.result.now = c.deref.ensures.value ∙ c.in_ok-extend_from_slice.ensures.items in
    let start : c.len-start.result ≡ length c.self.inside.names.items = search rules in
    rw (← c.deref.ensures.value) (noted_behind c.self.inside.names.items _ c.wire-bytes.result.now _ _ _ _ _ _ _ names c.wire-bytes.ensures start c.self.invariant.0 c.self.view_is (rw c.reserve.ensures.items at c.note_labels.ensures.noted))

pub note_labels-requires-clause-put : goal.note_labels-requires-clause-put
note_labels-requires-clause-put g c =
    let names : c.deref.result.now ≡ c.self.inside.names.items ++ c.wire-bytes.result.now = c.deref.ensures.value ∙ c.in_ok-extend_from_slice.ensures.items in
    put_longer c.self.inside.names.items c.wire-bytes.result.now c.deref.result.now c.self.inside.notes.items _ c.self.inside.firsts names (search rules) c.self.invariant.0 c.self.invariant.1
