use Rattle.std.proofs.Common.{subst, Some, option_map}
use Rattle.std.specs.Result.{IfOk}
use Rattle.message_grammar.specs.Messages.{Message}
use Rattle.worlds.specs.Hosting.{IsSent}
use Rattle.worlds.proofs.hosting.refer.Goals as goal

pub returns : goal.returns
returns g c =
    subst (λ (m : Message). IfOk c.sent-given.result (λ r. IsSent (Some m) (option_map (λ v. v.items) r))) c.referral.ensures c.sent-given.ensures
