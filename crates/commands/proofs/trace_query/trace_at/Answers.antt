-- The text at the path, or none.
use Rattle.std.proofs.Common.{refl, Err, inl}
use Rattle.commands.specs.declared.fault.Fault.TheVariants.{Memory, Unreadable}
use Rattle.commands.proofs.trace_query.trace_at.Goals as goal

pub returns-in-Ok-Some : goal.returns-in-Ok-Some
returns-in-Ok-Some g c = rw c.text.ensures.keeps at c.trace_in.ensures

pub returns-in-Ok-None : goal.returns-in-Ok-None
returns-in-Ok-None g c = (Err (Unreadable c.args.path), inl (refl, rw c.in-Ok-None.field-0-is at c.in-Ok-None.ensures.is), (c.report.ensures, refl))

pub returns-in-Err : goal.returns-in-Err
returns-in-Err g c = (Err Memory, inl tt, (c.report-in-Err.ensures, refl))
