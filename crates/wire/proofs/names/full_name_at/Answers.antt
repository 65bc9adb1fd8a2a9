use Rattle.std.proofs.Common.{◌∙◌, sym, ap, Ok, ℕ, List}
use Rattle.dname.specs.Labels.{folded_labels}
use Rattle.dname.specs.Wire.{labels_of}
use Rattle.wire.specs.Parts.{full_name_at}
use Rattle.wire.proofs.Walks.{full_refused, full_found, gives_failed}
use Rattle.wire.proofs.names.full_name_at.Goals as goal

pub returns-in_err-end-clause-is : goal.returns-in_err-end-clause-is
returns-in_err-end-clause-is g c =
    gives_failed (λ x. (x.0, x.1)) c.from_residual.result c.in_err-end.field-0.0 (full_name_at c.args.bytes.now c.args.faults c.args.limit c.args.at) c.from_residual.ensures.1
    (full_refused c.args.bytes.now c.args.faults c.args.limit c.args.at c.in_err-end.field-0.0 (sym c.in_err-end.ensures.is))

pub returns-clause-is : goal.returns-clause-is
returns-clause-is g c =
    let name = c.in_ok-of_letters.ensures ∙ ap (λ (x : List ℕ). folded_labels (labels_of x)) c.deref.ensures.0 in
    full_found c.args.bytes.now c.args.faults c.args.limit c.args.at (labels_of c.letters_at.new.letters.items) c.in_ok-end.end (sym c.in_ok-end.ensures.is)
    ∙ (λ i. Ok (sym name i, c.in_ok-end.end))
