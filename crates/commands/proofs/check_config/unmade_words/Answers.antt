-- No random bytes are read at that path.
use Rattle.std.proofs.Common.{sym, subst, string_bytes, IfOk}
use Rattle.commands.specs.Checks.{HasReason, TellsUnmade}
use Rattle.commands.specs.declared.fault.Fault.{Fault}
use Rattle.commands.proofs.Checks.{reason_told}
use Rattle.commands.proofs.check_config.unmade_words.Goals as goal

pub returns-in-Unreadable : goal.returns-in-Unreadable
returns-in-Unreadable g c =
    let told : IfOk c.reasoned.result (λ s. HasReason c.in-Unreadable.path.now (string_bytes s)) = reason_told string_bytes c.reasoned.result c.in-Unreadable.path.now _ c.reasoned.ensures in
    subst (λ (f : Fault). IfOk c.reasoned.result (λ s. TellsUnmade f (string_bytes s))) (sym c.in-Unreadable.is) told
