use Rattle.std.proofs.Common.{◌∙◌, ℕ, List, length, sym, ap}
use Rattle.dname.specs.Labels.{same_name, folded_labels}
use Rattle.dname.specs.Wire.{labels_of}
use Rattle.wire.specs.Parts.{spelt_before}
use Rattle.wire.specs.Spellings.{spelt_by}
use Rattle.wire.proofs.Spelt.{name_by, no_name_by}
use Rattle.wire.proofs.names.is_named.Goals as goal

pub unreachable-requires : goal.unreachable-requires
unreachable-requires g c =
    let bytes = c.args.bytes.now in
    let letters = c.letters_at-walked.new.letters.items in
    no_name_by bytes letters c.args.at c.in-Err.field-0
    (sym (ap (spelt_by letters) c.in-Err.is) ∙ (c.letters_at-walked.ensures.is ∙ ap (λ f. spelt_before bytes f (length bytes) c.args.at c.args.at) c.in_message.ensures)) c.requires.there

pub returns : goal.returns
returns g c =
    let bytes = c.args.bytes.now in
    let letters = c.letters_at-walked.new.letters.items in
    let labels = name_by bytes letters c.args.at c.in-Ok.field-0
    (sym (ap (spelt_by letters) c.in-Ok.is) ∙ (c.letters_at-walked.ensures.is ∙ ap (λ f. spelt_before bytes f (length bytes) c.args.at c.args.at) c.in_message.ensures)) in
    c.is_spelt.ensures ∙ ap (λ (x : List (List ℕ)). same_name x c.args.name.now) (ap (λ (x : List ℕ). folded_labels (labels_of x)) c.deref.ensures.0 ∙ sym labels)
