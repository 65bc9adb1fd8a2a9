use Rattle.std.proofs.Common.{rules, ◌∙◌, ap}
use Rattle.message_grammar.specs.Messages.{Message}
use Rattle.simnet.proofs.Truncated.{starved_only}
use Rattle.message_grammar.proofs.Single.{message_one}
use Rattle.simnet.proofs.come.truncated.Goals as goal

pub written-requires : goal.written-requires
written-requires g c =
    let same = message_one c.args.given.now c.in-Ok.message c.requires.message c.in-Ok.ensures.read c.requires.is in
    (c.in-Ok.message, c.requires.question, c.without_records.ensures, ap (λ (x : Message). x.questions) same ∙ c.requires.only)

pub unreachable-requires : goal.unreachable-requires
unreachable-requires g c =
    let memory = starved_only c.in-Err.field-0 c.args.given.now c.requires.message c.requires.is c.in-Err.ensures.refused in
    search rules
