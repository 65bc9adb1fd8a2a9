-- The summary, or why there is none.
use Rattle.std.proofs.Common.{inl, inr, string_bytes}
use Rattle.commands.proofs.check_config.check_text.Goals as goal

pub returns-in-Ok-clause-run : goal.returns-in-Ok-clause-run
returns-in-Ok-clause-run g c = inl (string_bytes c.in-Ok.summary, c.in-Ok.ensures.ok, c.put.ensures)

pub returns-in-Err-clause-run : goal.returns-in-Err-clause-run
returns-in-Err-clause-run g c = inr (c.in-Err.refusal.fault, string_bytes c.in-Err.refusal.words, (c.in-Err.ensures.err).0, (c.in-Err.ensures.err).1, c.refuse.ensures.told)
