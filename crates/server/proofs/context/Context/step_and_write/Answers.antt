use Rattle.std.proofs.Common.{inr, subst, sym}
use Rattle.std.proofs.lemmas.Result.{IfOk-weaker}
use Rattle.server.specs.Steps.{IsWritten}
use Rattle.server.proofs.Steps.{at_err, refused_any}
use Rattle.server.proofs.context.Context.step_and_write.Goals as goal

pub returns-in-Ok-clause-ok : goal.returns-in-Ok-clause-ok
returns-in-Ok-clause-ok g c =
    let stepped = c.in-Ok.ensures.ok in
    IfOk-weaker c.write_actions-actions.result _ _
    (λ actions h. record { entry = stepped.entry; last = stepped.last; enters = stepped.enters; written = subst (λ out. IsWritten out actions) (sym stepped.gave) h })
    c.write_actions-actions.ensures

pub returns-in-Ok-clause-err : goal.returns-in-Ok-clause-err
returns-in-Ok-clause-err g c = at_err c.write_actions-actions.result (inr c.in-Ok.ensures.ok.enters.ticket)

pub returns-in-Err-clause-err : goal.returns-in-Err-clause-err
returns-in-Err-clause-err g c = refused_any _ _ c.in-Err.field-0 c.in-Err.ensures.err
