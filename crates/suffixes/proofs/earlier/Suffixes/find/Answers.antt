use Rattle.std.proofs.Common.{◌∙◌, ap, rules}
use Rattle.dname.specs.Wire.{labels_of}
use Rattle.message_grammar.specs.Packing.{find}
use Rattle.suffixes.proofs.Search.{found_at, found_nowhere, found_behind}
use Rattle.suffixes.proofs.earlier.Suffixes.find.Goals as goal

pub returns-in-At-clause-is : goal.returns-in-At-clause-is
returns-in-At-clause-is g c =
    let end = rw c.deref.ensures.value at (rw c.deref-2.ensures.value at c.in-At.ensures) in
    found_at c.self.inside.names.items c.self.inside.notes.items c.self.inside.firsts c.args.suffix.now c.in-At.number c.index.result.now c.self.invariant.0 c.self.invariant.1 c.requires.wire end c.index.ensures
    ∙ ap (λ notes. find notes (labels_of c.args.suffix.now)) c.self.view_is

pub returns-in-Nowhere-clause-is : goal.returns-in-Nowhere-clause-is
returns-in-Nowhere-clause-is g c =
    found_nowhere c.self.inside.names.items c.self.inside.notes.items c.self.inside.firsts c.args.suffix.now c.self.invariant.0 c.self.invariant.1 c.requires.wire c.in-Nowhere.ensures
    ∙ ap (λ notes. find notes (labels_of c.args.suffix.now)) c.self.view_is

pub returns-in-Behind-clause-is : goal.returns-in-Behind-clause-is
returns-in-Behind-clause-is g c =
    let end = rw c.deref.ensures.value at (rw c.deref-2.ensures.value at c.in-Behind.ensures) in
    found_behind c.self.inside.names.items c.self.inside.notes.items c.self.inside.firsts c.args.suffix.now c.in-Behind.number c.in-Behind.branch c.self.invariant.0 c.self.invariant.1 c.requires.wire end
    ∙ ap (λ notes. find notes (labels_of c.args.suffix.now)) c.self.view_is
