-- What the source gave, or a fault under the path.
use Rattle.std.proofs.Common.{refl, inl, inr}
use Rattle.commands.proofs.texts.text_at.Goals as goal

pub returns-in-Ok-Some-clause-ok : goal.returns-in-Ok-Some-clause-ok
returns-in-Ok-Some-clause-ok g c = rw c.in-Ok-Some.field-0-is at c.in-Ok-Some.ensures.is

pub returns-in-Ok-None-clause-err : goal.returns-in-Ok-None-clause-err
returns-in-Ok-None-clause-err g c = inl (refl, rw c.in-Ok-None.field-0-is at c.in-Ok-None.ensures.is)

pub returns-in-Err-clause-err : goal.returns-in-Err-clause-err
returns-in-Err-clause-err g c = inr refl
