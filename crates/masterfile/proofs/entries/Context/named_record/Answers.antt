use Rattle.std.proofs.Common.{◌≡◌, Result, Ok, Option, sym, subst, ap, ◌∙◌}
use Rattle.rdata.specs.Records.{Record}
use Rattle.masterfile.specs.declared.faults.FileKind.{FileKind}
use Rattle.masterfile.specs.Entries.{Context}
use Rattle.masterfile.specs.Fields.{name_of}
use Rattle.masterfile.specs.Given.{GivesEntry}
use Rattle.masterfile.proofs.HeadLemmas.{named_is}
use Rattle.masterfile.proofs.entries.Context.named_record.Goals as goal

pub returns-clause-value : goal.returns-clause-value
returns-clause-value g c =
    let named : name_of c.args.self.now.origin c.args.name.now ≡ Ok c.in_ok-owner.owner =
    sym (ap (λ (x : Context). name_of x.origin c.args.name.now) c.self.view_is) ∙ c.in_ok-owner.ensures {u = tt} in
    subst (λ (read : Result (Option Record × Context) FileKind). GivesEntry c.record.result c.record.new.self read)
    (named_is c.args.self.now c.args.name.now c.in_ok-first.first.now c.in_ok-owner.owner c.args.words.now.words c.plain.new.words.words named (c.in_ok-first.ensures {u = tt}).value)
    c.record.ensures.value
