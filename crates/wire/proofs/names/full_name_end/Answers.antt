use Rattle.std.proofs.Common.{◌∙◌, ap}
use Rattle.wire.specs.Parts.{rdata_faults, spelt_before}
use Rattle.wire.proofs.Ends.{full_end_by}
use Rattle.wire.proofs.names.full_name_end.Goals as goal

pub returns-clause-is : goal.returns-clause-is
returns-clause-is c =
    full_end_by c.args.bytes.now rdata_faults c.args.end c.args.at c.letters_at.new.letters.items c.letters_at.result
    (c.letters_at.ensures.is ∙ ap (λ f. spelt_before c.args.bytes.now f c.args.end 0 c.args.at) c.in_rdata.ensures)
