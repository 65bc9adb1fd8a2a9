use Rattle.std.proofs.Common.{rules, ◌≡◌, ◌∙◌, sym, ap, subst, ℕ, List}
use Rattle.message_grammar.specs.Messages.{Message, IsMessage, encoding, folded_message}
use Rattle.wire.specs.Drafts.{RefusesText}
use Rattle.simnet.proofs.Truncated.{truncated_is_folded, only_starved}
use Rattle.simnet.proofs.come.written.Goals as goal

pub unreachable-requires : goal.unreachable-requires
unreachable-requires g c =
    let (m, q, is, only) = c.requires in
    let name = c.names_law.ensures q (ap (λ (x : Message). x.questions) is ∙ only) in
    let memory = only_starved m q only name c.in-Err.field-0 (subst (λ (n : Message). RefusesText c.in-Err.field-0 (encoding n) 512) is c.in-Err.ensures.err) in
    search rules

pub returns-in-Ok-clause-stands : goal.returns-in-Ok-clause-stands
returns-in-Ok-clause-stands g c =
    let (m, q, is, only) = c.requires in
    let name = c.names_law.ensures q (ap (λ (x : Message). x.questions) is ∙ only) in
    let folded : folded_message c.args.message.now ≡ c.args.message.now = ap folded_message is ∙ (truncated_is_folded m q only name ∙ sym is) in
    subst (IsMessage c.new.result) folded (subst (λ (bytes : List ℕ). IsMessage bytes (folded_message c.args.message.now)) (sym c.new.ensures) c.in-Ok.ensures.message)
