-- The words are read, and then what the file says, or a word is refused.
use Rattle.std.proofs.Common.{refl, Err, inl, inr}
use Rattle.commands.proofs.Servers.{run_weaker}
use Rattle.commands.proofs.trace_query.trace_query.Goals as goal

pub returns-in-Ok : goal.returns-in-Ok
returns-in-Ok g c = run_weaker (λ text h. (c.in-Ok.ensures.ok, h)) (λ f h. inr (c.in-Ok.ensures.ok, h)) c.trace_at.ensures

pub returns-in-Err : goal.returns-in-Err
returns-in-Err g c = (Err c.in-Err.fault, inl c.in-Err.ensures.err, (c.report.ensures, refl))
