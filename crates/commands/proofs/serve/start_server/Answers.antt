-- What comes of the text at the path, or of none.
use Rattle.std.proofs.Common.{refl, Err, inl}
use Rattle.commands.specs.declared.fault.Fault.TheVariants.{Unreadable, Memory}
use Rattle.commands.proofs.serve.start_server.Goals as goal

pub returns-in-Ok-Some-clause-run : goal.returns-in-Ok-Some-clause-run
returns-in-Ok-Some-clause-run g c = rw c.text.ensures.keeps at c.serve_text.ensures.run

pub returns-in-Ok-None-clause-run : goal.returns-in-Ok-None-clause-run
returns-in-Ok-None-clause-run g c = (Err (Unreadable c.args.path), inl (refl, rw c.in-Ok-None.field-0-is at c.in-Ok-None.ensures.is), (c.no_server.ensures.reported, refl))

pub returns-in-Err-clause-run : goal.returns-in-Err-clause-run
returns-in-Err-clause-run g c = (Err Memory, inl tt, (c.no_server-in-Err.ensures.reported, refl))

pub returns-in-Ok-Some-clause-starts : goal.returns-in-Ok-Some-clause-starts
returns-in-Ok-Some-clause-starts g c = rw c.text.ensures.keeps at c.serve_text.ensures.starts
