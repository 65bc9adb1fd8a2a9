use Rattle.std.proofs.Common.{◌∙◌, ap}
use Rattle.wire.specs.Parts.{rdata_faults, spelt_before}
use Rattle.wire.proofs.Ends.{name_end_by}
use Rattle.wire.proofs.names.name_end_within.Goals as goal

pub returns-clause-is : goal.returns-clause-is
returns-clause-is c =
    name_end_by c.args.bytes.now rdata_faults c.args.end c.args.at c.letters_at.new.letters.items c.letters_at.result
    (c.letters_at.ensures.is ∙ ap (λ f. spelt_before c.args.bytes.now f c.args.end c.args.at c.args.at) c.in_rdata.ensures)
